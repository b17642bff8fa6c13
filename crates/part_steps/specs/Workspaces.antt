-- How much room a step's workspace has, and which nodes it notes.
use Rattle.std.specs.Prelude.{ℕ, List, length, map, vec_capacity}
use Rattle.part_words.specs.declared.change.Change.{Change}
use Rattle.part_steps.specs.declared.evaluation.Workspace.{Workspace}
use Rattle.machine_parts.specs.Evaluating.{Rooms}

-- the room that the workspace has
abbrev pub rooms : Workspace → Rooms
rooms workspace = record {
  values = length workspace.values.items;
  changes = vec_capacity workspace.changes;
  parts = vec_capacity workspace.done;
}

-- the nodes of these changes, in their order
abbrev pub nodes_noted : List Change → List ℕ
nodes_noted changes = map (λ (change : Change). change.node) changes
