use Rattle.std.proofs.Common.{◌≡◌, ◌+◌, ◌-◌, ◌++◌}
use Rattle.net_gen.specs.Lines.{each}
use Rattle.net_gen.specs.Passes.{control}
use Rattle.net_gen.proofs.passes.put_controls.Given as goal

abbrev pub invariant-loop-j : goal.invariant-loop-j
invariant-loop-j l =
    (l.text.items ≡ l.initial.text.items ++ each 1 (l.j - 1) (control l.initial.draws.seed l.initial.draws.drawn))
    × (l.draws.seed ≡ l.initial.draws.seed)
    × (l.draws.drawn ≡ l.initial.draws.drawn + (l.j - 1))
