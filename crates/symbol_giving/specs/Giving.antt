-- What `set` and `charge` come to under all valuations.
use Rattle.std.specs.Prelude.{◌≡◌, ℕ, ◌<◌, ◌≤◌, List, length, map, Option, None, Some, Result, Ok, Err}
use Rattle.ternary.specs.declared.tern.Tern.{Tern}
use Rattle.script_lang.specs.declared.command.Command.{Command}
use Rattle.column_script.specs.declared.command.ValueCommand.{ValueCommand}
use Rattle.decision_graph.specs.declared.graph.GraphFault.{GraphFault}
use Rattle.decision_graph.specs.declared.graph.GraphFault.TheVariants as graph
use Rattle.formula_functions.specs.Tables.{TableData}
use Rattle.truth_makers.specs.Makers.{bound_of}
use Rattle.symbol_stage.specs.Stages.{StageData, states_in}
use Rattle.session_meaning.specs.declared.fault.ApplyFault.{ApplyFault}
use Rattle.session_meaning.specs.declared.fault.ApplyFault.TheVariants as apply
use Rattle.session_meaning.specs.declared.fault.Refusal.{Refusal}
use Rattle.session_meaning.specs.Columns.{column_of}
use Rattle.session_meaning.specs.Effects.{states_by}
use Rattle.session_meaning.specs.Refusals.{refusal_of}
use Rattle.session_meaning.specs.Sessions.{HeldSession, SessionData}
use Rattle.session_meaning.specs.Truths.{QuietlyInEach, StaysInAll, give_of}
use Rattle.symbol_script.specs.declared.line.Assignment.{Assignment}
use Rattle.symbol_meaning.specs.Readings.{plain_under}
use Rattle.symbol_giving.specs.declared.fault.GivingFault.{GivingFault}
use Rattle.symbol_giving.specs.declared.fault.GivingFault.TheVariants.{Refused, Full, NoMemory}
use Rattle.symbol_giving.specs.StandIns.{stand_in}
use Rattle.symbol_giving.specs.Letters.{named_in}

-- the data of a column of a session over the stage of a symbolic script
abbrev pub data_of : HeldSession StageData → ℕ → SessionData
data_of session column = column_of states_in session column

-- the command of a plain script that the command is in a column, where the names have the truth values of a table
abbrev pub command_in : ValueCommand → TableData → List Assignment → HeldSession StageData → ℕ → Command
command_in kind table list session column =
    give_of kind (map (plain_under (named_in session.stage table column) session.core.circuit session.core.vectors) list)

-- the states that it gives nodes there, from left to right
abbrev pub states_in_column : TableData → List Assignment → HeldSession StageData → ℕ → List (ℕ × Tern)
states_in_column table list session column =
    states_by session.core.circuit session.core.vectors
    (map (plain_under (named_in session.stage table column) session.core.circuit session.core.vectors) list)

-- the plain command that stands for it in all columns: it is refused as those are
abbrev pub stand_command : ValueCommand → List Assignment → SessionData → Command
stand_command kind list core = give_of kind (map (stand_in core.circuit core.vectors) list)

-- the fault is the refusal that there is, or lack of memory
abbrev pub IsFaultGiving : Option Refusal → GivingFault → Type 0
IsFaultGiving found (Refused refusal) = found ≡ Some refusal
IsFaultGiving found Full = ⊥
IsFaultGiving found NoMemory = Unit {0}

-- it isn't refused in any column, and each is as before
pub record StaysAllowed (columns : ℕ) (commands : ℕ → Command) (old new : ℕ → SessionData) : Type 0 where
  pub allowed : (column : ℕ) → column < columns → refusal_of (old column) (commands column) ≡ None
  pub stays : StaysInAll columns old new

-- what giving comes to: in each column the plain command was obeyed, or is refused so; where vertices or memory ran out, each is as before
abbrev pub GivesInAll : ℕ → (ℕ → Command) → (ℕ → SessionData) → (ℕ → SessionData) → Result (Unit {0}) GivingFault → Type 0
GivesInAll columns commands old new (Ok _) = QuietlyInEach columns old commands new (Ok tt)
GivesInAll columns commands old new (Err (Refused refusal)) = QuietlyInEach columns old commands new (Err (apply.Refused refusal))
GivesInAll columns commands old new (Err Full) = StaysAllowed columns commands old new
GivesInAll columns commands old new (Err NoMemory) = StaysInAll columns old new

-- why nothing is given where values are refused; what else ends a plain command is no fault of these
abbrev pub fault_of_values : ApplyFault → GivingFault
fault_of_values (apply.Refused refusal) = Refused refusal
fault_of_values (apply.GroupNodes node count) = NoMemory
fault_of_values (apply.GroupSwitches node count) = NoMemory
fault_of_values apply.WriteFault = NoMemory
fault_of_values apply.NoMemory = NoMemory

-- why nothing is given where a function isn't made
abbrev pub fault_of_graph : GraphFault → GivingFault
fault_of_graph graph.Full = Full
fault_of_graph graph.NoMemory = NoMemory

-- the fault is no refusal
abbrev pub IsLack : GivingFault → Type 0
IsLack (Refused refusal) = ⊥
IsLack Full = Unit {0}
IsLack NoMemory = Unit {0}

-- a refusal changes nothing at all
abbrev pub IsRefusedBy : HeldSession StageData → HeldSession StageData → GivingFault → Type 0
IsRefusedBy old new (Refused refusal) = new ≡ old
IsRefusedBy old new Full = Unit {0}
IsRefusedBy old new NoMemory = Unit {0}

-- vertices ran out only if there are as many as there may be
abbrev pub IsSpentBy : StageData → GivingFault → Type 0
IsSpentBy stage why = why ≡ Full → bound_of stage.machine.maker ≤ length stage.machine.maker.graph.vertices
