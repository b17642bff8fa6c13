-- A machine of columns that is made of a machine, and words that stand alone.
use Rattle.std.specs.Prelude.{◌≡◌, ℕ, ◌+◌, ◌-◌, ◌≤◌, true, List, length, replicate, min, Vec, vec_len, vec_capacity}
use Rattle.std.proofs.Common.{Global}
use Rattle.machine_laws.specs.Machines.{MachineData}
use Rattle.column_machines.specs.Columns.{WordData}
use Rattle.column_machines.specs.declared.rails.Rails.{Rails}

-- so many columns with these words, of this machine, all of whose parts are marked
pub record IsMadeOf (columns : ℕ) (machine : MachineData) (hi lo : List ℕ) (made : WordData) : Type 0 where
  pub columns_are : made.columns ≡ columns
  pub machine_is : made.machine ≡ machine
  pub marks_are : made.marks ≡ replicate (length machine.parts) true
  pub highs : made.hi ≡ hi
  pub lows : made.lo ≡ lo

-- for how many nodes more both rails have room
abbrev pub spare_of : Vec ℕ Global → Vec ℕ Global → ℕ
spare_of hi lo = min (vec_capacity hi - vec_len hi) (vec_capacity lo - vec_len lo)

-- there is room for so many nodes more
pub record HasRoom (nodes : ℕ) (rails : Rails) : Type 0 where
  pub hi : vec_len rails.hi + nodes ≤ vec_capacity rails.hi
  pub lo : vec_len rails.lo + nodes ≤ vec_capacity rails.lo
