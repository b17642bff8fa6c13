-- Laws of edits, each proved as the contract of a function in `src/laws.rt`.
use Rattle.std.specs.Prelude.{◌≡◌, false, List, [], ◌∷◌, ◌++◌, Contains, None}
use Rattle.switch_paths.specs.Graphs.{GraphData, IsWired}
use Rattle.group_meaning.specs.Groups.{Group, AreGroups}
use Rattle.channel_groups.specs.declared.change.Change.{Change}
use Rattle.channel_groups.specs.Grouping.{GroupsData, AreOf}
use Rattle.channel_groups.specs.Changes.{undo, nodes_before, nodes_after, is_touched_now, DifferAt, IsKept}

-- a graph and the graph before an edit differ at the changed nodes alone
abbrev pub EditsChangeTheirNodesAlone : Type 0
EditsChangeTheirNodesAlone =
    (g : GraphData) (change : Change) → DifferAt (undo g change) g (nodes_before change) (nodes_after g change)

-- a group of the graph now that the edit doesn't touch was one before, and all that its text is made of is as it was
abbrev pub UntouchedGroupsAreKept : Type 0
UntouchedGroupsAreKept =
    (g : GraphData) (change : Change) (old new : List Group) → IsWired (undo g change) → IsWired g →
    AreGroups (undo g change) old → AreGroups g new → (group : Group) → Contains new group →
    is_touched_now g change old group ≡ false → IsKept g change old group

-- with an empty place more at the end a graph has the same groups, and the same places at each node
abbrev pub EmptyPlacesChangeNoGroup : Type 0
EmptyPlacesChangeNoGroup =
    (g : GraphData) (found : GroupsData) → AreOf g found → AreOf (record g { places = g.places ++ None ∷ [] }) found
