-- Locality: what holds of a group's local graph holds of the group in the whole graph.
-- After Bryant, Beatty, Brace, Cho and Sheffler, "COSMOS: A Compiled Simulator for MOS Circuits", 1987.
use Rattle.std.specs.Prelude.{◌≡◌, ℕ, ◌<◌, ◌↔◌, List, length, slice_index, None}
use Rattle.ternary.specs.declared.tern.Tern.{Tern}
use Rattle.switch_paths.specs.Graphs.{GraphData, IsWired}
use Rattle.switch_paths.specs.Step.{IsResponse}
use Rattle.group_meaning.specs.Groups.{Group, IsGroup}
use Rattle.group_text.specs.Texts.{IsText, IsSmall, size_fault, text_of_group, local_graph, local_nodes, local_state}

-- the text of a group is well formed
abbrev pub TextsAreWellFormed : Type 0
TextsAreWellFormed = (g : GraphData) (group : Group) → IsWired g → IsGroup g group → IsText (text_of_group g group)

-- the text of a group that isn't too large is small: a switch brings at most three local nodes
abbrev pub TextsAreSmall : Type 0
TextsAreSmall =
    (g : GraphData) (group : Group) → IsGroup g group → size_fault (length group.members) (length group.switches) ≡ None → IsSmall (text_of_group g group)

-- the steady state of a member in its group's local graph, under the local state, is its steady state in the whole graph
abbrev pub ResponsesAreLocal : Type 0
ResponsesAreLocal =
    (g : GraphData) (group : Group) (state : List Tern) (k : ℕ) (answer : Tern) → IsWired g → IsGroup g group →
    k < length group.members →
    IsResponse (local_graph g group) (local_state (local_nodes g group) state) k answer
    ↔ IsResponse g state (slice_index group.members k) answer
