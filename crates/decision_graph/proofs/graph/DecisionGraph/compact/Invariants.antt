-- The functions that were passed were copied.
use Rattle.std.proofs.Common.{take}
use Rattle.decision_graph.specs.Graphs.{SameShape}
use Rattle.decision_graph.specs.Moving.{AreMoved, AreFound}
use Rattle.decision_graph.proofs.graph.DecisionGraph.compact.Given as goal

abbrev pub invariant-loop-root : goal.invariant-loop-root
invariant-loop-root l = record {
  shape : SameShape l.self l.graph;
  moved : AreMoved l.self.variables l.self.vertices l.graph.vertices l.moved.items;
  found : AreFound l.self.vertices (take l.root-index l.roots) l.graph.vertices l.found.items;
}
