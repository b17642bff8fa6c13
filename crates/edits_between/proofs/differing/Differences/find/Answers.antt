-- First the places, then the nodes.
use Rattle.std.proofs.Common.{inl, inr}
use Rattle.edits_between.specs.declared.differing.Spot.TheVariants.{Place}
use Rattle.edits_between.proofs.differing.Differences.find.Goals as goal

pub returns : goal.returns
returns c = record {
  by_place = λ place inside. elim (c.in_ok-note_places.ensures place inside) [
    | inl held ↦ inl (c.in_ok-note_nodes.ensures.kept (Place place) held)
    | inr same ↦ inr same
  ];
  by_node = c.in_ok-note_nodes.ensures.noted;
}
