-- What is noted of a run before any state is written: which nodes take which states.
use Rattle.std.specs.Prelude.{◌≡◌, ◌≢◌, ℕ, ◌<◌, ◌⊎◌, Bool, true, false, List, length, map, take, drop, Contains, slice_index}
use Rattle.ternary.specs.declared.tern.Tern.{Tern}
use Rattle.ternary.specs.Tern.{join}
use Rattle.switch_paths.specs.Switching.{state_at}
use Rattle.straight_code.specs.Code.{CodeData, code_value}
use Rattle.part_words.specs.declared.change.Change.{Change}

-- the state of a node that is given a value: a joining step joins it with the old state
abbrev pub after : Bool → Tern → Tern → Tern
after true state value = join state value
after false state value = value

-- the map with so many inputs that begins at this place among the nodes
abbrev pub map_at : List ℕ → ℕ → ℕ → List ℕ
map_at nodes inputs at = take inputs (drop at nodes)

-- the states of the nodes of that map
abbrev pub states_at : List Tern → List ℕ → ℕ → ℕ → List Tern
states_at state nodes inputs at = map (state_at state) (map_at nodes inputs at)

-- the value at some place makes the node at that place of a map change so
pub record IsNoted (joining : Bool) (nodes : List ℕ) (state values : List Tern) (change : Change) : Type 0 where
  pub place : ℕ
  pub inside : place < length values
  pub node : slice_index nodes place ≡ change.node
  pub value : change.value ≡ after joining (state_at state change.node) (state_at values place)
  pub differs : change.value ≢ state_at state change.node

-- what the code gives makes a member of the part whose map begins at this place change so
abbrev pub IsNotedAt : Bool → CodeData → List ℕ → List Tern → ℕ → Change → Type 0
IsNotedAt joining code nodes state at change =
    IsNoted joining (map_at nodes code.inputs at) state (code_value code (states_at state nodes code.inputs at)) change

-- the changes of all parts whose maps begin at these places are noted behind what was noted, and no others
pub record NotesAll (joining : Bool) (code : CodeData) (nodes starts : List ℕ) (state : List Tern) (old new : List Change) : Type 0 where
  pub kept : (change : Change) → Contains old change → Contains new change
  pub noted : (at : ℕ) (change : Change) → Contains starts at → IsNotedAt joining code nodes state at change → Contains new change
  pub only : (change : Change) → Contains new change → Contains old change ⊎ ((at : ℕ) × Contains starts at × IsNotedAt joining code nodes state at change)
