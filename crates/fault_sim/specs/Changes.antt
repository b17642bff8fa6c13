-- What a fault does before the script: the commands that it stands for, and the node that is stuck from then on.
use Rattle.std.specs.Prelude.{ℕ, List, [], ◌∷◌, Option, Some, None}
use Rattle.ternary.specs.declared.tern.Tern.{Tern}
use Rattle.switch_paths.specs.declared.switching.SwitchKind.TheVariants.{Always}
use Rattle.netlist.specs.Circuits.{CircuitData, called}
use Rattle.script_lang.specs.declared.command.Command.{Command}
use Rattle.script_lang.specs.declared.command.Command.TheVariants as family
use Rattle.script_lang.specs.declared.command.Edit.TheVariants.{Input, Del, Kind}
use Rattle.script_lang.specs.declared.command.Give.TheVariants.{Set}
use Rattle.script_lang.specs.declared.value.Value.TheVariants.{Letter}
use Rattle.fault_sim.specs.declared.fault.Fault.{Fault}
use Rattle.fault_sim.specs.declared.fault.Fault.TheVariants.{Open, Closed, Stuck}

-- the commands of a fault, in order: an open transistor is removed, a closed one becomes a depletion transistor, and a node that is stuck
-- becomes an input node and is set to its state
abbrev pub commands_of : CircuitData → Fault → List Command
commands_of c (Open number) = family.Edit (Del number) ∷ []
commands_of c (Closed number) = family.Edit (Kind number Always) ∷ []
commands_of c (Stuck node state) =
    family.Edit (Input (called c node ∷ [])) ∷ family.Give (Set ((called c node, Letter state) ∷ [])) ∷ []

-- one command, and perhaps another
abbrev pub commands_in : Command × Option Command → List Command
commands_in (first, None) = first ∷ []
commands_in (first, Some second) = first ∷ second ∷ []

-- the node that is stuck under a fault, and its state
abbrev pub stuck_by : Fault → Option (ℕ × Tern)
stuck_by (Open number) = None
stuck_by (Closed number) = None
stuck_by (Stuck node state) = Some (node, state)
