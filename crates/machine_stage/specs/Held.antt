-- What a machine's stage holds: the state alone, or the machine that moves it.
use Rattle.std.specs.Prelude.{ℕ, ◌-◌, ◌<◌, List, Option, None, Some, length, count_by, vec_len, vec_capacity}
use Rattle.ternary.specs.declared.tern.Tern.{Tern}
use Rattle.machine_parts.specs.Parts.{has_members}
use Rattle.machine_laws.specs.Machines.{MachineData}
use Rattle.machine_stage.specs.Machines.{without_room}
use Rattle.machine_stage.specs.declared.stage.Held.{Held}
use Rattle.machine_stage.specs.declared.stage.Held.TheVariants.{Still, Built}

-- the state that stands alone, or is the machine's
abbrev pub state_held : Held → List Tern
state_held (Still state) = state.items
state_held (Built machine) = machine.state

-- the machine, if there is one
abbrev pub machine_held : Held → Option MachineData
machine_held (Still state) = None
machine_held (Built machine) = Some (without_room machine)

-- for how many nodes more there is room
abbrev pub spare_held : Held → ℕ
spare_held (Still state) = vec_capacity state - vec_len state
spare_held (Built machine) = machine.spare

-- how many parts of a machine groups left that are gone
abbrev pub parts_left : MachineData → ℕ
parts_left machine = length machine.parts - count_by has_members machine.parts

-- groups that are gone left more of the machine's parts than it has groups, and more than 16
abbrev pub IsSparse : MachineData → Type 0
IsSparse machine = (count_by has_members machine.parts < parts_left machine) × (16 < parts_left machine)
