-- The lists are those of the present state, and the room stays.
use Rattle.std.proofs.Common.{◌≡◌, ◌≤◌, length}
use Rattle.std.specs.Prelude.{vec_capacity}
use Rattle.switch_paths.specs.Graphs.{nodes}
use Rattle.vicinity.specs.LiveLists.{AreListsOf}
use Rattle.tests_vicinity.proofs.bit_line.run_rows.Given as goal

abbrev pub invariant-loop-node : goal.invariant-loop-node
invariant-loop-node g l = record {
  counted : length l.state ≡ nodes l.graph;
  lists : AreListsOf l.graph l.state l.lists;
  touched : length l.touched.inside ≡ nodes l.graph;
  room : l.room.nodes ≡ nodes l.graph;
  changes : nodes l.graph ≤ vec_capacity l.changes;
}
