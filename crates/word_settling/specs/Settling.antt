-- Settling in columns: how a column's count goes on.
-- In the manner of MOSSIM II: Bryant, "A Switch-Level Model and Simulator for MOS Digital Systems", 1984.
use Rattle.std.specs.Prelude.{◌≡◌, ℕ, ◌+◌, ◌<◌, ◌↔◌, Bool, true, false, ◌||◌, List, IsTrue}
use Rattle.ternary.specs.declared.tern.Tern.{Tern}
use Rattle.switch_paths.specs.Graphs.{GraphData}
use Rattle.settling.specs.declared.settling.Settled.{Settled}
use Rattle.settling.specs.Settling.{Joining}

-- no step changed the column yet
abbrev pub none_yet : Settled
none_yet = record { steps = 0; joined = false }

-- the column's count after a step that changed it, or didn't
abbrev pub counted : Bool → Bool → Settled → Settled
counted true joining settled = record { steps = settled.steps + 1; joined = joining || settled.joined }
counted false joining settled = settled

-- a column that had a count of steps joins from one state to another: what is counted then are the joining steps besides
pub record Joins (g : GraphData) (old : List Tern) (first : ℕ) (new : List Tern) (settled : Settled) : Type 0 where
  pub second : ℕ
  pub joining : Joining g old second new
  pub total : settled.steps ≡ first + second
  pub was_joined : IsTrue settled.joined ↔ (0 < second)
