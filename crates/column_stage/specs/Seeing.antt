-- What an onlooker sees of a stage that moves: the states that it passes through.
-- In the manner of MOSSIM II: Bryant, "A Switch-Level Model and Simulator for MOS Digital Systems", 1984.
use Rattle.std.specs.Prelude.{◌≡◌, ℕ, Bool, List, length}
use Rattle.ternary.specs.declared.tern.Tern.{Tern}
use Rattle.switch_paths.specs.Graphs.{GraphData}
use Rattle.settling.specs.Passing.{SettlesThrough, last_state, see_all}

-- a state settles under a limit, by this number of unit steps, which pass through these states
abbrev pub PhaseThrough : GraphData → ℕ → List Tern → ℕ → List (List Tern) → Type 0
PhaseThrough g limit old steps passed = (joined : Bool) × SettlesThrough g old limit passed joined × (steps ≡ length passed)

-- an observer saw states that are passed through in this way, from one state to another
pub record SeesStates {S : Type 0} (see : S → List Tern → S) (Through : List (List Tern) → Type 0) (old new : List Tern) (before after : S) : Type 0 where
  pub passed : List (List Tern)
  pub through : Through passed
  pub last : new ≡ last_state old passed
  pub seen : after ≡ see_all see before passed
