-- Which parts are marked where a machine begins beside a good run.
-- After Bryant and Schuster, "Performance Evaluation of FMOSSIM, a Concurrent Switch-Level Fault Simulator", 1985.
use Rattle.std.specs.Prelude.{◌≡◌, ℕ, ◌⊎◌, List, length, Contains}
use Rattle.machine_parts.specs.Marking.{IsMarked}
use Rattle.machine_parts.specs.Parts.{IsStale}
use Rattle.machine_laws.specs.Machines.{MachineData}

-- these parts are marked, and the stale ones, and no others; all else stays
pub record MarksJust (these : List ℕ) (old new : MachineData) : Type 0 where
  pub rest : new ≡ record old { marks = new.marks }
  pub count : length new.marks ≡ length old.marks
  pub stale : (k : ℕ) → IsStale old.parts k → IsMarked new.marks k
  pub set : (k : ℕ) → Contains these k → IsMarked new.marks k
  pub only : (k : ℕ) → IsMarked new.marks k → Contains these k ⊎ IsStale old.parts k
