-- What is left to be told follows what is in the text.
use Rattle.std.proofs.Common.{◌≡◌, ◌++◌, drop}
use Rattle.std.specs.List.{flat_map}
use Rattle.circuit_lint.specs.Lines.{group_line}
use Rattle.circuit_lint.proofs.lines.group_lines.Given as goal

abbrev pub invariant-loop-sides : goal.invariant-loop-sides
invariant-loop-sides l =
    l.fn.text.items ++ flat_map (group_line l.circuit l.word) l.groups
    ≡ l.text.items ++ flat_map (group_line l.circuit l.word) (drop l.sides-index l.groups)
