-- What is left to be told follows what is in the text.
use Rattle.std.proofs.Common.{◌≡◌, ◌++◌, drop}
use Rattle.std.specs.List.{flat_map}
use Rattle.circuit_lint.specs.Lines.{floating_line}
use Rattle.circuit_lint.proofs.lines.floating_lines.Given as goal

abbrev pub invariant-loop-counted : goal.invariant-loop-counted
invariant-loop-counted l =
    l.fn.text.items ++ flat_map (floating_line l.circuit) l.floating
    ≡ l.text.items ++ flat_map (floating_line l.circuit) (drop l.counted-index l.floating)
