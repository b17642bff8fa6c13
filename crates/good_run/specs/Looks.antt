-- The looks of a record: where the changes of each end in one list.
use Rattle.std.specs.Prelude.{◌≡◌, ◌≢◌, ℕ, ◌+◌, ◌-◌, ◌<◌, ◌≤◌, ◌⊎◌, Bool, true, false, List, [], ◌∷◌, ◌++◌, length, map, take, drop, Contains, slice_set, slice_index_or}
use Rattle.ternary.specs.declared.tern.Tern.{Tern}
use Rattle.switch_paths.specs.Switching.{state_at}
use Rattle.part_words.specs.declared.change.Change.{Change}
use Rattle.good_run.specs.declared.look.Look.{Look}
use Rattle.good_run.specs.Recording.{Shown, count_apart}

-- a state after these changes, in order
abbrev pub applied : List Change → List Tern → List Tern
applied [] state = state
applied (change ∷ changes) state = applied changes (slice_set state change.node change.value)

-- the state that a look saw: the first one after all changes up to the look's end
abbrev pub shown_at : List Tern → List Change → Look → Shown
shown_at start changes look = record { begins = look.begins; state = applied (take look.end changes) start }

abbrev pub shown_in : List Tern → List Change → List Look → List Shown
shown_in start changes looks = map (shown_at start changes) looks

-- the changes from one place up to another
abbrev pub between : ℕ → ℕ → List Change → List Change
between from end changes = take (end - from) (drop from changes)

-- each of these changes gives a node that there is the state that it has in this state
abbrev pub GiveStates : List Change → List Tern → Type 0
GiveStates changes state = (change : Change) → Contains changes change → (change.node < length state) × (change.value ≡ state_at state change.node)

-- a look whose changes stand between these places
pub record IsLook (start : List Tern) (changes : List Change) (from end : ℕ) : Type 0 where
  pub ordered : from ≤ end
  pub inside : end ≤ length changes
  pub give : GiveStates (between from end changes) (applied (take end changes) start)

-- looks that follow one another from this place on
abbrev pub AreLooks : List Tern → List Change → ℕ → List Look → Type 0
AreLooks start changes from [] = Unit {0}
AreLooks start changes from (look ∷ looks) = IsLook start changes from look.end × AreLooks start changes look.end looks

-- where the changes of the look with this number begin: where those of the look before it end
abbrev pub from_of : List Look → ℕ → ℕ
from_of looks i = slice_index_or (0 ∷ map (λ look. look.end) looks) i 0

-- where the last of them ends
abbrev pub last_end : ℕ → List Look → ℕ
last_end from [] = from
last_end from (look ∷ looks) = last_end look.end looks

-- the looks follow one another; and if nothing was left out, their changes are all and lead to the state that is known
pub record IsRecord (start known : List Tern) (changes : List Change) (looks : List Look) (whole : Bool) : Type 0 where
  pub looks_are : AreLooks start changes 0 looks
  pub leads : whole ≡ true → known ≡ applied changes start
  pub all : whole ≡ true → last_end 0 looks ≡ length changes

-- these changes are behind the old ones, each is of a node at which the states differ, and they lead from one state to the other
pub record NotesChanges (old_state new_state : List Tern) (old new : List Change) : Type 0 where
  pub more : List Change
  pub behind : new ≡ old ++ more
  pub leads : applied more old_state ≡ new_state
  pub give : GiveStates more new_state
  pub number : length more ≡ count_apart old_state new_state

-- some changes are behind the old ones
pub record HasMore (old new : List Change) : Type 0 where
  pub more : List Change
  pub behind : new ≡ old ++ more

-- a node has this value already, and nothing was noted
pub record KeepsNode (node : ℕ) (value : Tern) (old_state new_state : List Tern) (old new : List Change) : Type 0 where
  pub has : state_at old_state node ≡ value
  pub state_is : new_state ≡ old_state
  pub same : new ≡ old

-- a node got this value, and the change was noted
pub record NotesNode (node : ℕ) (value : Tern) (old_state new_state : List Tern) (old new : List Change) : Type 0 where
  pub differs : state_at old_state node ≢ value
  pub state_is : new_state ≡ slice_set old_state node value
  pub behind : new ≡ old ++ record { node = node; value = value } ∷ []

-- a node got this value, and there was no room to note it
pub record LosesNode (node : ℕ) (value : Tern) (old_state new_state : List Tern) (old new : List Change) (capacity : ℕ) : Type 0 where
  pub differs : state_at old_state node ≢ value
  pub state_is : new_state ≡ slice_set old_state node value
  pub same : new ≡ old
  pub full : capacity ≤ length old

-- one of these, and whether it was noted or had the value
abbrev pub TakesNode : ℕ → Tern → List Tern → List Tern → List Change → List Change → ℕ → Bool → Type 0
TakesNode node value old_state new_state old new capacity true =
    KeepsNode node value old_state new_state old new ⊎ NotesNode node value old_state new_state old new
TakesNode node value old_state new_state old new capacity false = LosesNode node value old_state new_state old new capacity

-- the first nodes of a list have their states in the new state, and all others those in the old one; the changes so far are behind those that were
-- there; and while all were noted they lead to the state that there is, or else there are more than there is room for
pub record TakesSoFar (changed : List ℕ) (i : ℕ) (old_state mid new_state : List Tern) (old now : List Change) (capacity : ℕ) (enough : Bool) : Type 0 where
  pub count : length mid ≡ length old_state
  pub done : (node : ℕ) → Contains (take i changed) node → state_at mid node ≡ state_at new_state node
  pub rest : (node : ℕ) → (¬ Contains (take i changed) node) → state_at mid node ≡ state_at old_state node
  pub more : List Change
  pub behind : now ≡ old ++ more
  pub give : GiveStates more new_state
  pub leads : enough ≡ true → applied more old_state ≡ mid
  pub number : enough ≡ true → length more + count_apart mid new_state ≡ count_apart old_state new_state
  pub over : enough ≡ false → capacity < length old + count_apart old_state new_state
