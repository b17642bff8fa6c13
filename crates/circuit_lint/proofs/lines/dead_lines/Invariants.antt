-- What is left to be told follows what is in the text.
use Rattle.std.proofs.Common.{◌≡◌, ◌++◌, drop}
use Rattle.std.specs.List.{flat_map}
use Rattle.circuit_lint.specs.Lines.{dead_line}
use Rattle.circuit_lint.proofs.lines.dead_lines.Given as goal

abbrev pub invariant-loop-counted : goal.invariant-loop-counted
invariant-loop-counted l = l.fn.text.items ++ flat_map (dead_line) l.dead ≡ l.text.items ++ flat_map (dead_line) (drop l.counted-index l.dead)
