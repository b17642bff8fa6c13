-- Groups that are stepped by vicinities, if they are known: what is done with them in a step.
-- After Bryant, "A Switch-Level Model and Simulator for MOS Digital Systems", 1984.
use Rattle.std.specs.Prelude.{◌≡◌, ℕ, ◌+◌, ◌≤◌, Bool, List, [], length, Contains, Option, None, Some}
use Rattle.ternary.specs.declared.tern.Tern.{Tern}
use Rattle.switch_paths.specs.Graphs.{nodes}
use Rattle.part_words.specs.declared.change.Change.{Change}
use Rattle.machine_parts.specs.declared.part.MachinePart.{MachinePart}
use Rattle.vicinity.specs.NodeSets.{IsIn}
use Rattle.vicinity.specs.LiveLists.{AreListsOf}
use Rattle.vicinity.specs.Evaluating.{AreChanges, IsPaid}
use Rattle.vicinity.specs.Wides.{WideData, Calms, Turned}
use Rattle.wide_groups.specs.Moving.{HasStaleOnly}

-- the graph has all nodes, and the lists are those of their states
pub record IsListed (state : List Tern) (wide : WideData) : Type 0 where
  pub counted : nodes wide.graph ≡ length state
  pub live : AreListsOf wide.graph state wide.lists

-- the same, if they are known
abbrev pub IsListedIn : List Tern → Option WideData → Type 0
IsListedIn state None = Unit {0}
IsListedIn state (Some wide) = IsListed state wide

-- its storage nodes are members of stale parts besides, and there is room for a change of each node
pub record IsWideOf (parts : List MachinePart) (state : List Tern) (room : ℕ) (wide : WideData) : Type 0 where
  pub listed : IsListed state wide
  pub stale_only : HasStaleOnly parts wide.graph
  pub enough : length state ≤ room

-- the same, if they are known
abbrev pub HoldsWide : List MachinePart → List Tern → ℕ → Option WideData → Type 0
HoldsWide parts state room None = Unit {0}
HoldsWide parts state room (Some wide) = IsWideOf parts state room wide

-- the changes of the nodes that are awake
abbrev pub NotesIn : Bool → Option WideData → List Tern → List Change → Type 0
NotesIn joining None state changes = changes ≡ []
NotesIn joining (Some wide) state changes = AreChanges joining wide.graph state wide.touched.list [] changes

-- the work of finding them
abbrev pub LooksIn : Option WideData → List Tern → ℕ → ℕ → Type 0
LooksIn None state old new = new ≡ old
LooksIn (Some wide) state old new = IsPaid wide.graph wide.lists.ends state wide.touched.list old new

-- what is touched while a step is taken over
abbrev pub CalmsIn : Bool → Option WideData → Option WideData → Type 0
CalmsIn joining None None = Unit {0}
CalmsIn joining (Some wide) (Some later) = Calms joining wide later
CalmsIn joining None (Some later) = ⊥
CalmsIn joining (Some wide) None = ⊥

-- states change, and what that stirs is touched
abbrev pub TurnedIn : Option WideData → Option WideData → List Tern → List Tern → Type 0
TurnedIn None None old new = Unit {0}
TurnedIn (Some wide) (Some later) old new = Turned wide later old new
TurnedIn None (Some later) old new = ⊥
TurnedIn (Some wide) None old new = ⊥

-- what is touched is listed
pub record ListsTouched (wide : WideData) : Type 0 where
  pub listed : (node : ℕ) → IsIn wide.touched.inside node → Contains wide.touched.list node
  pub only : (node : ℕ) → Contains wide.touched.list node → IsIn wide.touched.inside node

-- the same, if they are known
abbrev pub ListsIn : Option WideData → Type 0
ListsIn None = Unit {0}
ListsIn (Some wide) = ListsTouched wide

-- the work of a step: at most the instructions of the marked parts, so many, and what the nodes that are awake cost
pub record IsWorked (instructions : ℕ) (wide : Option WideData) (state : List Tern) (old new : ℕ) : Type 0 where
  pub between : ℕ
  pub coded : between ≤ old + instructions
  pub awake : LooksIn wide state between new
