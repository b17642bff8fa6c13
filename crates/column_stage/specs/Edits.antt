-- A graph before an edit.
use Rattle.std.specs.Prelude.{◌≡◌, ◌≤◌, ◌⊎◌, ◌++◌, [], ◌∷◌, None}
use Rattle.switch_paths.specs.Graphs.{GraphData, IsWired, nodes}
use Rattle.channel_groups.specs.declared.change.Change.{Change}
use Rattle.channel_groups.specs.Changes.{undo}

-- the change undoes to this graph, or, if a transistor was added, to it with an empty place more at the end; and no node was taken away
pub record IsUndone (before g : GraphData) (change : Change) : Type 0 where
  pub wired : IsWired before
  pub more : nodes before ≤ nodes g
  pub is : (undo g change ≡ before) ⊎ (undo g change ≡ record before { places = before.places ++ None ∷ [] })
