-- Which parts are apart where a run begins beside a good one.
-- After Bryant and Schuster, "Performance Evaluation of FMOSSIM, a Concurrent Switch-Level Fault Simulator", 1985.
use Rattle.std.specs.Prelude.{◌≡◌, ◌≢◌, ℕ, ◌<◌, ◌⊎◌, Bool, List, length}
use Rattle.ternary.specs.declared.tern.Tern.{Tern}
use Rattle.switch_paths.specs.Switching.{state_at}
use Rattle.machine_parts.specs.Marking.{IsMarked}
use Rattle.machine_parts.specs.Parts.{IsStale}
use Rattle.machine_parts.specs.Stepping.{Concerns}
use Rattle.machine_laws.specs.Machines.{MachineData}

-- the part with this number has a node as a member, or reads one, that is below this one and has another state than in the good run
pub record IsConcerned (m : MachineData) (good : List Tern) (end k : ℕ) : Type 0 where
  pub node : ℕ
  pub below : node < end
  pub differs : state_at m.state node ≢ state_at good node
  pub concerns : Concerns m.parts k node

-- the part with this number is touched or stale, or some node concerns it that differs
abbrev pub IsFirstApart : MachineData → List Bool → List Tern → ℕ → Type 0
IsFirstApart m touched good k = IsMarked touched k ⊎ (IsStale m.parts k ⊎ IsConcerned m good (length m.state) k)

-- these parts are apart, and no others
pub record AreFirstApart (m : MachineData) (touched : List Bool) (good : List Tern) (apart : List Bool) : Type 0 where
  pub counted : length apart ≡ length m.parts
  pub all : (k : ℕ) → IsFirstApart m touched good k → IsMarked apart k
  pub only : (k : ℕ) → IsMarked apart k → IsFirstApart m touched good k
