-- The states that a state passes through while it settles.
-- In the manner of MOSSIM II: Bryant, "A Switch-Level Model and Simulator for MOS Digital Systems", 1984.
use Rattle.std.specs.Prelude.{◌≡◌, ◌≢◌, ℕ, zero, suc, ◌<◌, ◌↔◌, Bool, List, [], ◌∷◌, ◌++◌, length, IsTrue}
use Rattle.ternary.specs.declared.tern.Tern.{Tern}
use Rattle.switch_paths.specs.Graphs.{GraphData}
use Rattle.switch_paths.specs.Step.{IsStep}
use Rattle.settling.specs.Settling.{IsJoinStep}

-- the last of the states, and the one before them if there are none
abbrev pub last_state : List Tern → List (List Tern) → List Tern
last_state old [] = old
last_state old (next ∷ states) = last_state next states

-- plain replacements pass through these states: each is the step of the one before it and differs from it, and
-- the last is steady if there are fewer than the limit
abbrev pub SteppingThrough : GraphData → ℕ → List Tern → List (List Tern) → Type 0
SteppingThrough g zero old states = states ≡ []
SteppingThrough g (suc left) old [] = IsStep g old old
SteppingThrough g (suc left) old (next ∷ states) = IsStep g old next × (next ≢ old) × SteppingThrough g left next states

-- joining replacements pass through these states: each is the joining step of the one before it and differs from
-- it, and the last is its own
abbrev pub JoiningThrough : GraphData → List Tern → List (List Tern) → Type 0
JoiningThrough g old [] = IsJoinStep g old old
JoiningThrough g old (next ∷ states) = IsJoinStep g old next × (next ≢ old) × JoiningThrough g next states

-- a state settles and passes through these states, in this order: plain replacements first, then joining ones
pub record SettlesThrough (g : GraphData) (old : List Tern) (limit : ℕ) (passed : List (List Tern)) (joined : Bool) : Type 0 where
  pub plain : List (List Tern)
  pub fading : List (List Tern)
  pub stepping : SteppingThrough g limit old plain
  pub joining : JoiningThrough g (last_state old plain) fading
  pub total : passed ≡ plain ++ fading
  pub was_joined : IsTrue joined ↔ (0 < length fading)

-- what is seen of states, one after another
abbrev pub see_all : {S : Type 0} → (S → List Tern → S) → S → List (List Tern) → S
see_all see before [] = before
see_all see before (state ∷ states) = see_all see (see before state) states
