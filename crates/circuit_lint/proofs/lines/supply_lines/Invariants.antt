-- What is left to be told follows what is in the text.
use Rattle.std.proofs.Common.{◌≡◌, ◌++◌, drop}
use Rattle.std.specs.List.{flat_map}
use Rattle.circuit_lint.specs.Lines.{supply_line}
use Rattle.circuit_lint.proofs.lines.supply_lines.Given as goal

abbrev pub invariant-loop-place : goal.invariant-loop-place
invariant-loop-place l = l.fn.text.items ++ flat_map (supply_line l.circuit) l.supply ≡ l.text.items ++ flat_map (supply_line l.circuit) (drop l.place-index l.supply)
