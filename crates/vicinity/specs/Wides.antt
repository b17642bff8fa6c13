-- Large groups, which are stepped by vicinities: their graph, the places that are listed at its nodes, and its touched nodes.
-- After Bryant, "A Switch-Level Model and Simulator for MOS Digital Systems", 1984.
use Rattle.std.specs.Prelude.{◌≡◌, ℕ, ◌⊎◌, Bool, true, false, List, length, Contains}
use Rattle.ternary.specs.declared.tern.Tern.{Tern}
use Rattle.switch_paths.specs.Graphs.{GraphData, IsStorage, nodes}
use Rattle.vicinity.specs.Lists.{LiveListsData}
use Rattle.vicinity.specs.LiveLists.{AreListsOf}
use Rattle.vicinity.specs.NodeSets.{NodeSetData, IsIn}
use Rattle.vicinity.specs.Touching.{SwitchChanges}
use Rattle.vicinity.specs.Stepping.{Touches, Stirs, PlacesGroup}
use Rattle.vicinity.specs.Evaluating.{ScratchData}

-- a group without a text is held if it has no more members than this; the graph has the switches of the groups that are held, and all other
-- nodes are input nodes of it; the places at each node; and which nodes are touched
pub record WideData : Type 0 where
  pub large : ℕ
  pub graph : GraphData
  pub lists : LiveListsData
  pub touched : NodeSetData

-- each node can be touched, and there is room for all nodes
pub record IsWide (g : GraphData) (touched : NodeSetData) (room : ScratchData) : Type 0 where
  pub counted : length touched.inside ≡ nodes g
  pub enough : room.nodes ≡ nodes g

-- all but the lists and what is touched stays
pub record StaysWide (old new : WideData) : Type 0 where
  pub large : new.large ≡ old.large
  pub graph : new.graph ≡ old.graph

-- after a plain step nothing is touched any more, and a joining one leaves what is touched as it is
pub record Calms (joining : Bool) (old new : WideData) : Type 0 where
  pub stays : StaysWide old new
  pub lists : new.lists ≡ old.lists
  pub kept : joining ≡ true → new.touched ≡ old.touched
  pub clear : joining ≡ false → (node : ℕ) → ¬ IsIn new.touched.inside node

-- the states changed: the lists were those of the old state and are those of the new one; what was touched still is, and so are the storage
-- nodes at which a switch changed, and no others
pub record Turned (old_wide new_wide : WideData) (old new : List Tern) : Type 0 where
  pub stays : StaysWide old_wide new_wide
  pub live : AreListsOf old_wide.graph old old_wide.lists → AreListsOf old_wide.graph new new_wide.lists
  pub touches : Touches old_wide.graph old new old_wide.touched.inside new_wide.touched.inside

-- a step was taken over: a joining one left all touched nodes touched, and the storage nodes are touched at which a switch changed, and no others
pub record Retouches (joining : Bool) (old_wide new_wide : WideData) (old new : List Tern) : Type 0 where
  pub stays : StaysWide old_wide new_wide
  pub kept : joining ≡ true → (node : ℕ) → Contains old_wide.touched.list node → Contains new_wide.touched.list node
  pub all : (node : ℕ) → IsStorage old_wide.graph node → SwitchChanges old_wide.graph old new node → Contains new_wide.touched.list node
  pub only : (node : ℕ) → Contains new_wide.touched.list node →
      ((joining ≡ true) × Contains old_wide.touched.list node) ⊎ (IsStorage old_wide.graph node × SwitchChanges old_wide.graph old new node)

-- a node was placed: the lists are those of the new state, in each group whose members rested but for what is awake they do so again, and no
-- more is touched than was and what the node stirs
pub record PlacesWide (placed : ℕ) (old_wide new_wide : WideData) (old new : List Tern) : Type 0 where
  pub stays : StaysWide old_wide new_wide
  pub live : AreListsOf old_wide.graph new new_wide.lists
  pub group : PlacesGroup old_wide.graph old new old_wide.touched.list new_wide.touched.list
  pub only : (node : ℕ) → Contains new_wide.touched.list node →
      Contains old_wide.touched.list node ⊎ (IsStorage old_wide.graph node × Stirs old_wide.graph old new placed node)
