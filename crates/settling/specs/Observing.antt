-- What an observer of single steps has seen of a state that settles, and what it leaves where a look fails.
-- In the manner of MOSSIM II: Bryant, "A Switch-Level Model and Simulator for MOS Digital Systems", 1984.
use Rattle.std.specs.Prelude.{◌≡◌, ℕ, Bool, List, ◌∷◌, ◌++◌, length}
use Rattle.ternary.specs.declared.tern.Tern.{Tern}
use Rattle.switch_paths.specs.Graphs.{GraphData, nodes}
use Rattle.settling.specs.Passing.{SettlesThrough, SteppingThrough, JoiningThrough, see_all, last_state}
use Rattle.settling.specs.declared.settling.Settled.{Settled}

-- the observer saw the states that are passed through, in order: as many as there are steps, and the last is the new state
pub record IsSeen {S : Type 0} (see : S → List Tern → S) (g : GraphData) (old : List Tern) (limit : ℕ) (new : List Tern)
    (settled : Settled) (before after : S) : Type 0 where
  pub passed : List (List Tern)
  pub settles : SettlesThrough g old limit passed settled.joined
  pub last : new ≡ last_state old passed
  pub count : settled.steps ≡ length passed
  pub seen : after ≡ see_all see before passed

-- a look at a state that is passed through failed: the observer had seen those before it, and others were to follow
pub record IsStopped {O S F : Type 0} (see : S → List Tern → S) (seen : O → S) (fixed : O → F) (Part : O → List Tern → Type 0)
    (g : GraphData) (old : List Tern) (limit : ℕ) (new : List Tern) (before : O) : Type 0 where
  pub front : List (List Tern)
  pub rest : List (List Tern)
  pub joined : Bool
  pub settles : SettlesThrough g old limit (front ++ new ∷ rest) joined
  pub mid : O
  pub seen_is : seen mid ≡ see_all see (seen before) front
  pub fixed_is : fixed mid ≡ fixed before
  pub part : Part mid new

-- states were passed through in this way, and the observer saw them: so many as were counted, and the last is the new state
pub record PassesSeen {S : Type 0} (Passes : List (List Tern) → Type 0) (see : S → List Tern → S) (old : List Tern) (count : ℕ) (new : List Tern)
    (before after : S) : Type 0 where
  pub passed : List (List Tern)
  pub passes : Passes passed
  pub last : new ≡ last_state old passed
  pub count_is : count ≡ length passed
  pub seen : after ≡ see_all see before passed

-- a look at a state on the way failed; with what is left of a limit, whatever follows it belongs to those so far
pub record PassesStopped {O S F : Type 0} (Passes : List (List Tern) → Type 0) (Follows : ℕ → List (List Tern) → Type 0) (see : S → List Tern → S)
    (seen : O → S) (fixed : O → F) (Part : O → List Tern → Type 0) (g : GraphData) (new : List Tern) (before : O) : Type 0 where
  pub front : List (List Tern)
  pub left : ℕ
  pub follow : (more : List (List Tern)) → Follows left more → Passes (front ++ new ∷ more)
  pub count : length new ≡ nodes g
  pub mid : O
  pub seen_is : seen mid ≡ see_all see (seen before) front
  pub fixed_is : fixed mid ≡ fixed before
  pub part : Part mid new

-- by plain replacements
abbrev pub StepsSeen : {S : Type 0} → (S → List Tern → S) → GraphData → ℕ → List Tern → ℕ → List Tern → S → S → Type 0
StepsSeen see g limit old count new before after = PassesSeen (SteppingThrough g limit old) see old count new before after

abbrev pub StepsStopped : {O S F : Type 0} → (S → List Tern → S) → (O → S) → (O → F) → (O → List Tern → Type 0) → GraphData → ℕ → List Tern → List Tern → O →
    Type 0
StepsStopped see seen fixed Part g limit old new before =
    PassesStopped (SteppingThrough g limit old) (λ left. SteppingThrough g left new) see seen fixed Part g new before

-- and by joining replacements, which have no limit
abbrev pub JoinsSeen : {S : Type 0} → (S → List Tern → S) → GraphData → List Tern → ℕ → List Tern → S → S → Type 0
JoinsSeen see g old count new before after = PassesSeen (JoiningThrough g old) see old count new before after

abbrev pub JoinsStopped : {O S F : Type 0} → (S → List Tern → S) → (O → S) → (O → F) → (O → List Tern → Type 0) → GraphData → List Tern → List Tern → O →
    Type 0
JoinsStopped see seen fixed Part g old new before =
    PassesStopped (JoiningThrough g old) (λ left. JoiningThrough g new) see seen fixed Part g new before
