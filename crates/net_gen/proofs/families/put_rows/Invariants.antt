use Rattle.std.proofs.Common.{◌≡◌, ◌-◌, ◌++◌}
use Rattle.net_gen.specs.Lines.{each}
use Rattle.net_gen.specs.Families.{row}
use Rattle.net_gen.proofs.families.put_rows.Given as goal

abbrev pub invariant-loop-r : goal.invariant-loop-r
invariant-loop-r l = l.text.items ≡ l.initial.text.items ++ each 1 (l.r - 1) (row l.kind)
