-- Unit steps that come back to a state: what follows goes on as it did before.
use Rattle.std.specs.Prelude.{◌≡◌, ◌≢◌, ℕ, zero, suc, ◌+◌, ◌*◌, ◌<◌, ◌⊎◌, List, [], ◌∷◌, Option, None, Some}
use Rattle.ternary.specs.declared.tern.Tern.{Tern}
use Rattle.switch_paths.specs.Graphs.{GraphData}
use Rattle.switch_paths.specs.Step.{IsStep}
use Rattle.settling.specs.Settling.{Stepping}
use Rattle.settling.specs.Passing.{see_all}

-- so many unit steps lead from one state to another, and each of them changes something
abbrev pub Changing : GraphData → ℕ → List Tern → List Tern → Type 0
Changing g zero old new = new ≡ old
Changing g (suc count) old new = (next : List Tern) × IsStep g old next × (next ≢ old) × Changing g count next new

-- from a state that comes back after some unit steps the same steps lead to it again, as often as one likes, and what follows then counts on
abbrev pub StatesThatComeBackRecur : Type 0
StatesThatComeBackRecur =
    (g : GraphData) (period times left : ℕ) (state : List Tern) (count : ℕ) (new : List Tern) → Changing g period state state →
    Stepping g left state count new → Stepping g (times * period + left) state (times * period + count) new

-- unit steps pass through these states: each is the step of the one before it and differs from it
abbrev pub ChangingThrough : GraphData → List Tern → List (List Tern) → Type 0
ChangingThrough g old [] = Unit {0}
ChangingThrough g old (next ∷ states) = IsStep g old next × (next ≢ old) × ChangingThrough g next states

-- who saw states sees nothing new in them if they are shown again, all of them and in the same order
pub record OnceIsEnough {S : Type 0} (see : S → List Tern → S) : Type 0 where
  pub again : (before : S) (states : List (List Tern)) → see_all see (see_all see before states) states ≡ see_all see before states

-- what remembers a state of a phase: after how many steps it was there, if a state is remembered, and that state
pub record RecallData : Type 0 where
  pub since : Option ℕ
  pub state : List Tern

-- the state that there is after so many steps is the one that is remembered, so many steps after it
pub record IsBack (recall : RecallData) (now : List Tern) (count round : ℕ) : Type 0 where
  pub since : ℕ
  pub was : recall.since ≡ Some since
  pub some : 0 < round
  pub later : since + round ≡ count
  pub same : now ≡ recall.state

-- it is back, and so many steps are whole rounds from it to it
pub record AreRounds (recall : RecallData) (now : List Tern) (count steps : ℕ) : Type 0 where
  pub round : ℕ
  pub back : IsBack recall now count round
  pub times : ℕ
  pub whole : steps ≡ times * round

-- what is remembered stays, or it is the state that there is after so many steps, or nothing
abbrev pub RemembersOne : RecallData → RecallData → List Tern → ℕ → Type 0
RemembersOne old new now count = (new ≡ old) ⊎ ((new.since ≡ None) ⊎ ((new.since ≡ Some count) × (new.state ≡ now)))

-- what a look at the state that there is after so many steps does to what is remembered, and how many steps it finds ahead: none, or whole rounds
-- of a state that is back, which is not remembered any more
abbrev pub Recalls : RecallData → RecallData → List Tern → ℕ → ℕ → Type 0
Recalls old new now count steps = ((steps ≡ 0) × RemembersOne old new now count) ⊎ (AreRounds old now count steps × (new.since ≡ None))
