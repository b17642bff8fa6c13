-- What is left to be told follows what is in the text.
use Rattle.std.proofs.Common.{◌≡◌, ◌++◌, codes, drop}
use Rattle.std.specs.List.{flat_map}
use Rattle.circuit_lint.specs.Lines.{switch_after}
use Rattle.circuit_lint.proofs.lines.short_line.Given as goal

abbrev pub invariant-loop-place : goal.invariant-loop-place
invariant-loop-place l = l.fn.text.items ++ codes "shorted" ++ flat_map switch_after l.places ≡ l.text.items ++ flat_map switch_after (drop l.place-index l.places)
