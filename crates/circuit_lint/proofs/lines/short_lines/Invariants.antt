-- The lines of the lists so far are in the text.
use Rattle.std.proofs.Common.{◌≡◌, ◌++◌, take}
use Rattle.std.specs.List.{flat_map}
use Rattle.circuit_lint.specs.Lines.{short_line}
use Rattle.circuit_lint.specs.Ways.{lists_of}
use Rattle.circuit_lint.proofs.lines.short_lines.Given as goal

abbrev pub invariant-loop-places : goal.invariant-loop-places
invariant-loop-places l = l.text.items ≡ l.fn.text.items ++ flat_map short_line (lists_of (take l.places-index l.shorts))
