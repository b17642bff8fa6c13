use Rattle.std.proofs.Common.{◌≡◌, ◌++◌}
use Rattle.net_gen.specs.Lines.{each}
use Rattle.net_gen.specs.Columns.{cell}
use Rattle.net_gen.proofs.columns.put_column.Given as goal

abbrev pub invariant-loop-j : goal.invariant-loop-j
invariant-loop-j l = l.text.items ≡ l.initial.text.items ++ each 0 l.j (cell l.c)
