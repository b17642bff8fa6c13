-- The function doesn't hold exactly where the rails of the nodes before this one hold alike.
use Rattle.std.proofs.Common.{◌≡◌, ◌↔◌, ℕ, ◌<◌, Bool, false, length}
use Rattle.decision_graph.specs.Graphs.{SameShape}
use Rattle.decision_graph.specs.Meaning.{holds}
use Rattle.decision_graph.specs.Vertices.{Extends}
use Rattle.symbol_comparing.specs.Rails.{rails_seen, HoldAlike}
use Rattle.symbol_comparing.proofs.rails.difference.Given as goal

abbrev pub invariant-loop-k : goal.invariant-loop-k
invariant-loop-k l = record {
  shape : SameShape l.fn.graph l.graph;
  extends : Extends l.fn.graph.vertices l.graph.vertices;
  inside : l.made.place < length l.graph.vertices;
  value : (vars : ℕ → Bool) → (holds l.graph.vertices vars l.made.place ≡ false)
      ↔ HoldAlike l.fn.graph.vertices vars l.k (rails_seen l.one) (rails_seen l.other);
}
