use Rattle.std.proofs.Common.{◌≡◌, ◌-◌, ◌++◌}
use Rattle.net_gen.specs.Lines.{each}
use Rattle.net_gen.specs.Passes.{pass}
use Rattle.net_gen.proofs.passes.put_row.Given as goal

abbrev pub invariant-loop-j : goal.invariant-loop-j
invariant-loop-j l = l.text.items ≡ l.initial.text.items ++ each 1 (l.j - 1) (pass l.r)
