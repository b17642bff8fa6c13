-- What each column is given of a command.
use Rattle.std.specs.Prelude.{ℕ, ◌==◌, List, length, map, if◌then◌else◌}
use Rattle.ternary.specs.declared.tern.Tern.{Tern}
use Rattle.switch_paths.specs.Switching.{state_at}
use Rattle.script_lang.specs.declared.value.Value.{Value}
use Rattle.script_lang.specs.declared.value.Value.TheVariants.{Alone}
use Rattle.script_lang.specs.declared.command.Command.{Command}
use Rattle.script_lang.specs.declared.command.Command.TheVariants as family
use Rattle.script_lang.specs.declared.command.Give.{Give}
use Rattle.script_lang.specs.declared.command.Give.TheVariants as plain
use Rattle.script_lang.specs.declared.command.Setup.{Setup}
use Rattle.script_lang.specs.declared.command.Setup.TheVariants.{Keep, Save}
use Rattle.script_lang.specs.declared.command.Run.{Run}
use Rattle.script_lang.specs.declared.command.Run.TheVariants.{Report}
use Rattle.column_script.specs.declared.command.ValueCommand.{ValueCommand}
use Rattle.column_script.specs.declared.command.ValueCommand.TheVariants as value
use Rattle.column_script.specs.declared.command.ColumnCommand.{ColumnCommand}
use Rattle.column_script.specs.declared.command.ColumnCommand.TheVariants.{Values, Shared}

-- the state of a value that is a column's: one alone is that of all columns
abbrev pub state_in : ℕ → List Tern → Tern
state_in column states = if length states == 1 then state_at states 0 else state_at states column

-- the name and the state that the column is given
abbrev pub value_in : ℕ → List ℕ × List Tern → List ℕ × Tern
value_in column value = (value.0, state_in column value.1)

-- the state goes to the node of the name, and to no vector
abbrev pub alone_of : List ℕ × Tern → List ℕ × Value
alone_of item = (item.0, Alone item.1)

-- the plain command that gives such states
abbrev pub plain_of : ValueCommand → List (List ℕ × Tern) → Give
plain_of value.Set list = plain.Set (map alone_of list)
plain_of value.Charge list = plain.Charge (map alone_of list)

-- what a column is given of a command
abbrev pub in_column : ℕ → ColumnCommand → Command
in_column column (Values command list) = family.Give (plain_of command (map (value_in column) list))
in_column column (Shared command) = command

-- columns are alike in what they have set: no bound on what is kept, and no states are kept
abbrev pub IsSharedSetup : Setup → Type 0
IsSharedSetup (Keep number) = ⊥
IsSharedSetup (Save name) = ⊥
IsSharedSetup other = Unit {0}

-- and in what has the circuit built: no report
abbrev pub IsSharedRun : Run → Type 0
IsSharedRun Report = ⊥
IsSharedRun other = Unit {0}

-- columns can be given the command all alike: it gives no values, and is there for columns
abbrev pub IsShared : Command → Type 0
IsShared (family.Edit edit) = Unit {0}
IsShared (family.Give give) = ⊥
IsShared (family.Setup setup) = IsSharedSetup setup
IsShared (family.Run run) = IsSharedRun run
IsShared (family.Tell tell) = ⊥
