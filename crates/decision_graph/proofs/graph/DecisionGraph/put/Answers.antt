-- An insertion keeps the graph reduced and within its bound, and the notes right.
use Rattle.std.proofs.Common.{subst, sym, rules}
use Rattle.decision_graph.specs.Vertices.{Extends}
use Rattle.decision_graph.specs.Making.{IsOver}
use Rattle.decision_graph.specs.Graphs.{AreKept}
use Rattle.decision_graph.proofs.VertexLemmas.{Extends-inserted, IsReduced-inserted, IsPlaced-stored, few-inserted, Extends-same}
use Rattle.decision_graph.proofs.NoteLemmas.{AllNoted-extends}
use Rattle.decision_graph.proofs.graph.DecisionGraph.put.Goals as goal
use Rattle.decision_graph.proofs.graph.DecisionGraph.put.Goals.{in-Ok, in-Err}

pub invariant_of-self : goal.invariant_of-self
invariant_of-self c = elim c.match-insert_full.branch [
  | in-Ok w ↦
      let over : IsOver c.self.inside.variables c.self.inside.vertices.keys c.args.vertex =
      subst (λ graph. IsOver graph.variables graph.vertices c.args.vertex) (sym c.self.view_is) c.requires in
      let extends : Extends c.self.inside.vertices.keys c.insert_full.new.self.keys =
      Extends-inserted _ _ c.args.vertex w.in-Ok.ensures.keys in
      record {
        reduced = IsReduced-inserted c.self.inside.variables _ _ c.args.vertex c.self.invariant.reduced over w.in-Ok.ensures.keys;
        few = few-inserted _ _ _ _ _ w.in-Ok.ensures.len w.in-Ok.ensures.added (c.has_room.ensures.room (search rules)) c.self.invariant.few;
        bounded = c.self.invariant.bounded;
        shallow = c.self.invariant.shallow;
        some = c.self.invariant.some;
        right = AllNoted-extends c.self.inside.variables _ _ c.self.inside.notes.items extends c.self.invariant.right;
      }
  | in-Err w ↦ subst (λ keys. AreKept c.self.inside.variables c.self.inside.most keys c.self.inside.notes.items)
      (sym w.in-Err.ensures.err) c.self.invariant
]

pub returns-clause-extends : goal.returns-clause-extends
returns-clause-extends c = elim c.match-insert_full.branch [
  | in-Ok w ↦ subst (λ graph. Extends graph.vertices c.insert_full.new.self.keys) c.self.view_is
      (Extends-inserted _ _ c.args.vertex w.in-Ok.ensures.keys)
  | in-Err w ↦ rw w.in-Err.ensures.err (subst (λ graph. Extends graph.vertices c.self.inside.vertices.keys) c.self.view_is (Extends-same _))
]

pub returns-clause-placed : goal.returns-clause-placed
returns-clause-placed c = elim c.match-insert_full.branch [
  | in-Ok w ↦
      let over : IsOver c.self.inside.variables c.self.inside.vertices.keys c.args.vertex =
      subst (λ graph. IsOver graph.variables graph.vertices c.args.vertex) (sym c.self.view_is) c.requires in
      rw w.result-is
      (IsPlaced-stored c.self.inside.variables _ c.args.vertex _
      (IsReduced-inserted c.self.inside.variables _ _ c.args.vertex c.self.invariant.reduced over w.in-Ok.ensures.keys)
      w.in-Ok.ensures.within w.in-Ok.ensures.stored)
  | in-Err w ↦ rw w.result-is tt
]
