-- What is left to be told follows what is in the text.
use Rattle.std.proofs.Common.{◌≡◌, ◌++◌, drop}
use Rattle.std.specs.List.{flat_map}
use Rattle.circuit_lint.specs.Lines.{wide_line}
use Rattle.circuit_lint.proofs.lines.wide_lines.Given as goal

abbrev pub invariant-loop-sides : goal.invariant-loop-sides
invariant-loop-sides l = l.fn.text.items ++ flat_map (wide_line l.circuit) l.wide ≡ l.text.items ++ flat_map (wide_line l.circuit) (drop l.sides-index l.wide)
