-- What an onlooker of a run is shown: its steps and phases, and states that stand between them.
use Rattle.std.specs.Prelude.{ℕ, List, [], ◌∷◌, ◌++◌}
use Rattle.ternary.specs.declared.tern.Tern.{Tern}
use Rattle.settling.specs.Passing.{see_all, last_state}

-- a step or a phase: the state in which it begins, those that it passes through, and the number of unit steps that is told of it
pub record Pass : Type 0 where
  pub before : List Tern
  pub states : List (List Tern)
  pub steps : ℕ

-- the state behind it
abbrev pub state_behind : Pass → List Tern
state_behind pass = last_state pass.before pass.states

-- what was seen once a step or a phase began, each of its states was passed through, and it was over
abbrev pub see_pass : {S : Type 0} → (S → List Tern → S) → (S → List Tern → S) → (S → ℕ → S) → S → Pass → S
see_pass begin see rest before pass = rest (see_all see (begin before pass.before) pass.states) pass.steps

-- what was seen of steps and phases, one after another
abbrev pub see_passes : {S : Type 0} → (S → List Tern → S) → (S → List Tern → S) → (S → ℕ → S) → S → List Pass → S
see_passes begin see rest before [] = before
see_passes begin see rest before (pass ∷ passes) = see_passes begin see rest (see_pass begin see rest before pass) passes

-- the state behind the last of them, and the one before them if there are none
abbrev pub last_behind : List Tern → List Pass → List Tern
last_behind old [] = old
last_behind old (pass ∷ passes) = last_behind (state_behind pass) passes

-- what is shown: a step or a phase, or a state that stands behind something else
pub data View : Type 0 where
  Passed : Pass → View
  Stands : List Tern → View

-- what was seen of views, one after another
abbrev pub look_all : {S : Type 0} → (S → List Tern → S) → (S → List Tern → S) → (S → ℕ → S) → S → List View → S
look_all begin see rest before [] = before
look_all begin see rest before (Passed pass ∷ views) = look_all begin see rest (see_pass begin see rest before pass) views
look_all begin see rest before (Stands state ∷ views) = look_all begin see rest (see before state) views

-- the states that are shown, in order
abbrev pub states_of : List View → List (List Tern)
states_of [] = []
states_of (Passed pass ∷ views) = pass.before ∷ (pass.states ++ states_of views)
states_of (Stands state ∷ views) = state ∷ states_of views
