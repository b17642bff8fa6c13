-- The record of a run: the states in which its steps and phases begin, and those behind its unit steps.
use Rattle.std.specs.Prelude.{◌≡◌, ℕ, ◌+◌, ◌-◌, Bool, true, false, ◌&&◌, not, nat_lt, nat_eq, if◌then◌else◌, List, [], ◌∷◌, ◌++◌, length, map, flat_map, slice_index_or}
use Rattle.ternary.specs.declared.tern.Tern.{Tern}
use Rattle.ternary.specs.declared.tern.Tern.TheVariants.{Zero, One, Unk}
use Rattle.settling.specs.Passes.{Pass}

-- a state that was shown: one in which a step or a phase begins, or one behind a unit step
pub record Shown : Type 0 where
  pub begins : Bool
  pub state : List Tern

-- two states of a node differ, which counts as 1
abbrev pub apart_by : Tern → Tern → ℕ
apart_by Zero Zero = 0
apart_by Zero One = 1
apart_by Zero Unk = 1
apart_by One Zero = 1
apart_by One One = 0
apart_by One Unk = 1
apart_by Unk Zero = 1
apart_by Unk One = 1
apart_by Unk Unk = 0

-- at how many nodes two states differ
abbrev pub count_apart : List Tern → List Tern → ℕ
count_apart [] two = 0
count_apart (s ∷ one) [] = 0
count_apart (s ∷ one) (t ∷ two) = apart_by s t + count_apart one two

-- the state from which it was recorded, and the one that is known; the states that were noted, in order; for how many changes of nodes and for how
-- many states more there is room; and whether none was left out
pub record RunData : Type 0 where
  pub start : List Tern
  pub known : List Tern
  pub shown : List Shown
  pub left : ℕ
  pub places : ℕ
  pub whole : Bool

-- nothing was shown yet: there is this room
pub record IsEmpty (state : List Tern) (changes states : ℕ) (run : RunData) : Type 0 where
  pub start_is : run.start ≡ state
  pub known_is : run.known ≡ state
  pub none : run.shown ≡ []
  pub room : run.left ≡ changes
  pub more_room : run.places ≡ states
  pub whole_is : run.whole ≡ true

-- none was left out, and there is room to note this state, of as many nodes
abbrev pub has_room : RunData → List Tern → Bool
has_room run state =
    run.whole && (nat_lt 0 run.places && (not (nat_lt run.left (count_apart run.known state)) && nat_eq (length state) (length run.known)))

-- the record with a state more
abbrev pub with_look : Bool → RunData → List Tern → RunData
with_look begins run state = record {
  start = run.start;
  known = state;
  shown = run.shown ++ record { begins = begins; state = state } ∷ [];
  left = run.left - count_apart run.known state;
  places = run.places - 1;
  whole = true;
}

-- and if it is left out: from then on all are
abbrev pub without_look : RunData → List Tern → RunData
without_look run state = record { start = run.start; known = state; shown = run.shown; left = 0; places = 0; whole = false }

-- what becomes of the record when a state is shown: it is noted if there is room
abbrev pub look_at : Bool → RunData → List Tern → RunData
look_at begins run state = if has_room run state then with_look begins run state else without_look run state

-- what is noted of a step or a phase: the state in which it begins, and those behind its unit steps
abbrev pub shown_by : Pass → List Shown
shown_by pass = record { begins = true; state = pass.before } ∷ map (λ state. record { begins = false; state = state }) pass.states

-- and of several, in order
abbrev pub shown_of : List Pass → List Shown
shown_of passes = flat_map shown_by passes

-- the state before the one with this number was shown
abbrev pub state_before : RunData → ℕ → List Tern
state_before run i = slice_index_or (run.start ∷ map (λ shown. shown.state) run.shown) i []

-- whether a step or a phase begins with the state with this number
abbrev pub begins_at : RunData → ℕ → Bool
begins_at run i = slice_index_or (map (λ shown. shown.begins) run.shown) i false
