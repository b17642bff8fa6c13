-- Parts of the texts of groups that aren't too large, and how much they take.
use Rattle.std.specs.Prelude.{◌≡◌, ℕ, ◌≤◌, ◌^◌, length, Some}
use Rattle.std.specs.declared.rc.Rc.{Rc}
use Rattle.std.proofs.Common.{Global}
use Rattle.straight_code.specs.Code.{CodeData}
use Rattle.machine_parts.specs.declared.part.MachinePart.{MachinePart}

-- a part of no more than 200 members and 2,600 local nodes, whose code, if it has one, has no more inputs, and up to 2^30 instructions
pub record IsSmallPart (part : MachinePart) : Type 0 where
  pub members : part.members ≤ 200
  pub map : length part.map.items ≤ 2600
  pub code : (code : Rc CodeData Global) → part.code ≡ Some code → (code.value.inputs ≤ 2600) × (length code.value.instructions ≤ 2 ^ 30)

-- how many nodes the map of a part has
abbrev pub nodes_of : MachinePart → ℕ
nodes_of part = length part.map.items
