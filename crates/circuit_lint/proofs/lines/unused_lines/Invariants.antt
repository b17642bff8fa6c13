-- What is left to be told follows what is in the text.
use Rattle.std.proofs.Common.{◌≡◌, ◌++◌, drop}
use Rattle.std.specs.List.{flat_map}
use Rattle.circuit_lint.specs.Lines.{unused_line}
use Rattle.circuit_lint.proofs.lines.unused_lines.Given as goal

abbrev pub invariant-loop-node : goal.invariant-loop-node
invariant-loop-node l = l.fn.text.items ++ flat_map (unused_line l.circuit) l.unused ≡ l.text.items ++ flat_map (unused_line l.circuit) (drop l.node-index l.unused)
