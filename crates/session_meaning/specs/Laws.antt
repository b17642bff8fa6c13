-- Laws of commands: what one does is determined.
use Rattle.std.specs.Prelude.{◌≡◌, ℕ, List, length}
use Rattle.ternary.specs.declared.tern.Tern.{Tern}
use Rattle.group_text.specs.Texts.{GroupTextData}
use Rattle.script_lang.specs.declared.command.Command.{Command}
use Rattle.column_script.specs.declared.command.ColumnCommand.{ColumnCommand}
use Rattle.column_script.specs.Commands.{in_column}
use Rattle.session_meaning.specs.Refusals.{refusal_of}
use Rattle.session_meaning.specs.Saves.{state_back, with_save}
use Rattle.session_meaning.specs.Sessions.{SessionData}
use Rattle.told_lines.specs.Lines.{Line}
use Rattle.session_meaning.specs.Effects.{Effect}
use Rattle.session_meaning.specs.Outcomes.{Performs}
use Rattle.settling.specs.Passes.{Pass}
use Rattle.session_meaning.specs.Passing.{PassesThrough}

-- a command has one effect on some data: one outcome, and one list of lines
abbrev pub EffectsAreUnique : Type 0
EffectsAreUnique =
    (old new other : SessionData) (command : Command) (lines more : List Line) → Effect old command new lines → Effect old command other more →
    (new ≡ other) × (lines ≡ more)

-- what `back` gives if no node was made since the save is the whole state that was kept
abbrev pub SavesComeBack : Type 0
SavesComeBack =
    (saves : List (List ℕ × List Tern)) (name : List ℕ) (state later : List Tern) → length later ≡ length state →
    state_back (with_save saves name state) name later ≡ state

-- with what is built before it, it comes to one thing: one outcome, one list of lines, and the same texts of groups are analysed for it
abbrev pub CommandsPerformOneThing : Type 0
CommandsPerformOneThing =
    (old new other : SessionData) (command : Command) (lines more : List Line) (texts others : List GroupTextData) →
    Performs old command new lines texts → Performs old command other more others → (new ≡ other) × (lines ≡ more) × (texts ≡ others)

-- a command has one list of steps and phases
abbrev pub CommandsPassThroughOneList : Type 0
CommandsPassThroughOneList =
    (old : SessionData) (command : Command) (passes other : List Pass) → PassesThrough old command passes → PassesThrough old command other →
    passes ≡ other

-- whether a command for columns is refused, and why, doesn't depend on the column, nor on its state
abbrev pub ColumnsRefuseAlike : Type 0
ColumnsRefuseAlike =
    (session : SessionData) (state : List Tern) (command : ColumnCommand) (column other : ℕ) →
    refusal_of (record session { state = state }) (in_column column command) ≡ refusal_of session (in_column other command)
