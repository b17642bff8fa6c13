use Rattle.std.proofs.Common.{take}
use Rattle.switch_paths.specs.Graphs.{nodes}
use Rattle.node_words.specs.Words.{AreMarks}
use Rattle.node_words.proofs.words.marked.Given as goal

-- the names so far have marked their nodes
abbrev pub invariant-loop-place : goal.invariant-loop-place
invariant-loop-place l = AreMarks (take l.place l.circuit.names) l.pattern (nodes l.circuit.graph) l.marks.items
