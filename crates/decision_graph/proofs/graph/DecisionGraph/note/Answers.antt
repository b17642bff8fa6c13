-- The new note is right, and the others were.
use Rattle.std.proofs.Common.{subst, sym, arith}
use Rattle.std.proofs.Math.ListN.{length-set}
use Rattle.std.proofs.lemmas.List.Elements.{All-set}
use Rattle.decision_graph.specs.Graphs.{IsNoted}
use Rattle.decision_graph.specs.Making.{IsCombined}
use Rattle.decision_graph.proofs.graph.DecisionGraph.note.Goals as goal

pub invariant_of-self : goal.invariant_of-self
invariant_of-self c = record {
  reduced = c.self.invariant.reduced;
  few = c.self.invariant.few;
  bounded = c.self.invariant.bounded;
  shallow = c.self.invariant.shallow;
  some = omega (arith, c.self.invariant.some, length-set c.self.inside.notes.items c.slot-place.result c.args.note);
  right = All-set (IsNoted c.self.inside.variables c.self.inside.vertices.keys) c.self.inside.notes.items c.slot-place.result c.args.note
      (subst (λ graph. IsNoted graph.variables graph.vertices c.args.note) (sym c.self.view_is) c.requires) c.self.invariant.right;
}

pub returns-clause-right : goal.returns-clause-right
returns-clause-right c =
    subst (λ graph. IsCombined graph.variables graph.vertices c.args.note.kind c.args.note.a.place c.args.note.b.place c.args.note.made.place)
    (sym c.self.view_is) c.requires.combined
