-- Which nodes may be given states.
use Rattle.std.specs.Prelude.{ℕ, Option}
use Rattle.netlist.specs.Circuits.{CircuitData}
use Rattle.column_script.specs.declared.command.ValueCommand.{ValueCommand}
use Rattle.column_script.specs.declared.command.ValueCommand.TheVariants as value
use Rattle.session_meaning.specs.declared.fault.Refusal.{Refusal}
use Rattle.session_meaning.specs.Refusals.{charge_at, set_at}
use Rattle.cosmos_session.specs.declared.values.Target.{Target}
use Rattle.cosmos_session.specs.declared.values.Target.TheVariants.{Inputs, Stores}

-- those that a command gives letters
abbrev pub target_of : ValueCommand → Target
target_of value.Set = Inputs
target_of value.Charge = Stores

-- why a node of the circuit isn't given a state
abbrev pub target_at : Target → CircuitData → ℕ → Option Refusal
target_at Inputs = set_at
target_at Stores = charge_at
