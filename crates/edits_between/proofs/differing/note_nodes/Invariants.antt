-- So far each node was noted, or is alike, and what stood in the list does.
use Rattle.std.proofs.Common.{◌≡◌, ℕ, ◌<◌, ◌⊎◌}
use Rattle.std.specs.Prelude.{Contains}
use Rattle.switch_paths.specs.Graphs.{level_of}
use Rattle.edits_between.specs.declared.differing.Spot.{Spot}
use Rattle.edits_between.specs.declared.differing.Spot.TheVariants.{Node}
use Rattle.edits_between.proofs.differing.note_nodes.Given as goal

abbrev pub invariant-loop-node : goal.invariant-loop-node
invariant-loop-node l = record {
  kept : (spot : Spot) → Contains l.fn.spots.items spot → Contains l.spots.items spot;
  noted : (k : ℕ) → k < l.node → Contains l.spots.items (Node k) ⊎ (level_of l.one k ≡ level_of l.other k);
}
