-- What waits and the parts that are left come to what all parts do.
use Rattle.std.proofs.Common.{◌≡◌, ℕ, Bool, [], drop}
use Rattle.decision_graph.specs.Vertices.{Extends}
use Rattle.decision_graph.specs.Graphs.{SameShape}
use Rattle.formula_functions.specs.Tables.{AreInside, named_under, values_under}
use Rattle.formula_functions.specs.Truths.{after_parts}
use Rattle.formula_functions.proofs.making.function_of.Given as goal

abbrev pub invariant-loop-part : goal.invariant-loop-part
invariant-loop-part l = record {
  shape : SameShape l.fn.graph l.graph;
  extends : Extends l.fn.graph.vertices l.graph.vertices;
  inside : AreInside l.graph.vertices l.waiting;
  values : (vars : ℕ → Bool) → after_parts (named_under l.fn.graph.vertices vars l.table) (drop l.part-index l.formula) (values_under l.graph.vertices vars l.waiting)
      ≡ after_parts (named_under l.fn.graph.vertices vars l.table) l.formula [];
}
