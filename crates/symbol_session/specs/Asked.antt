-- What a line of a symbolic script asks for, done in all columns: under each valuation it is a command of a plain script, or nothing.
use Rattle.std.specs.Prelude.{◌≡◌, ℕ, ◌<◌, Bool, true, false, List, [], All, Option, Some, None, Result, Ok, Err}
use Rattle.group_text.specs.Texts.{GroupTextData}
use Rattle.circuit_texts.specs.declared.texts.BuildFault.{BuildFault}
use Rattle.circuit_texts.specs.Sizes.{TellsRefused}
use Rattle.printed_lines.specs.declared.faults.FaultCode.{FaultCode}
use Rattle.script_lang.specs.declared.command.Command.{Command}
use Rattle.script_lang.specs.declared.command.Command.TheVariants as family
use Rattle.script_lang.specs.declared.command.Give.{Give}
use Rattle.script_lang.specs.declared.command.Give.TheVariants.{Set, Charge, Back}
use Rattle.script_lang.specs.declared.command.Setup.{Setup}
use Rattle.script_lang.specs.declared.command.Setup.TheVariants.{Keep, Widen}
use Rattle.script_lang.specs.declared.command.Run.{Run}
use Rattle.script_lang.specs.declared.command.Run.TheVariants.{Report}
use Rattle.script_lang.specs.declared.command.Tell.{Tell}
use Rattle.script_lang.specs.declared.command.Tell.TheVariants.{Expect}
use Rattle.script_lang.specs.Forms.{IsFormed}
use Rattle.told_lines.specs.Lines.{Line}
use Rattle.formulas.specs.declared.formula.Part.{Part}
use Rattle.formula_functions.specs.Tables.{value_named}
use Rattle.symbol_lines.specs.Names.{has_name}
use Rattle.column_script.specs.declared.command.ValueCommand.{ValueCommand}
use Rattle.column_script.specs.declared.command.ValueCommand.TheVariants as value
use Rattle.symbol_script.specs.declared.line.Assignment.{Assignment}
use Rattle.symbol_script.specs.declared.line.ValueVerb.TheVariants as verb
use Rattle.symbol_script.specs.declared.line.SymbolLine.{SymbolLine}
use Rattle.symbol_script.specs.declared.line.SymbolLine.TheVariants as asks
use Rattle.symbol_script.specs.Lines.{names_of_asked}
use Rattle.session_meaning.specs.declared.fault.Refusal.{Refusal}
use Rattle.session_meaning.specs.Sessions.{SessionData}
use Rattle.session_meaning.specs.Outcomes.{Does, Performs}
use Rattle.session_meaning.specs.Preparing.{builds}
use Rattle.session_meaning.specs.Refusals.{refusal_of}
use Rattle.script_meaning.specs.declared.turn.Turn.{Turn}
use Rattle.script_meaning.specs.declared.turn.Turn.TheVariants.{Accepted, Refused, TooLarge}
use Rattle.script_meaning.specs.Codes.{refusal_code}
use Rattle.symbol_meaning.specs.Readings.{Valuations, asked_under}
use Rattle.symbol_meaning.specs.Scripts.{definition_in}
use Rattle.symbol_meaning.specs.Told.{SymbolTold}
use Rattle.symbol_meaning.specs.Merging.{Merges}

-- ---- what may be asked for

-- a plain command that a symbolic script has: it is given no values, and is neither `report` nor `keep` nor `wide`
abbrev pub IsOfGive : Give → Type 0
IsOfGive (Set list) = ⊥
IsOfGive (Charge list) = ⊥
IsOfGive (Back name) = Unit {0}

abbrev pub IsOfSetup : Setup → Type 0
IsOfSetup (Keep number) = ⊥
IsOfSetup (Widen number) = ⊥
IsOfSetup other = Unit {0}

abbrev pub IsOfRun : Run → Type 0
IsOfRun Report = ⊥
IsOfRun other = Unit {0}

abbrev pub IsOfTell : Tell → Type 0
IsOfTell (Expect list) = ⊥
IsOfTell other = Unit {0}

abbrev pub IsOfScript : Command → Type 0
IsOfScript (family.Edit edit) = Unit {0}
IsOfScript (family.Give give) = IsOfGive give
IsOfScript (family.Setup setup) = IsOfSetup setup
IsOfScript (family.Run run) = IsOfRun run
IsOfScript (family.Tell tell) = IsOfTell tell

-- a line may ask for any of these
abbrev pub IsAskable : SymbolLine → Type 0
IsAskable (asks.Values verb list) = Unit {0}
IsAskable (asks.Names command) = Unit {0}
IsAskable (asks.Plain command) = IsFormed command × IsOfScript command

-- the line that gives nodes values, by its command
abbrev pub asked_values : ValueCommand → List Assignment → SymbolLine
asked_values value.Set list = asks.Values verb.Set list
asked_values value.Charge list = asks.Values verb.Charge list

-- the names that are used have by a table the truth values that they have in the script, and a name that is defined isn't there yet
pub record IsKnown (v : Valuations) (names : List (List ℕ)) (truths : ℕ → List Bool) (asked : SymbolLine) : Type 0 where
  pub values : (column : ℕ) → column < v.columns → All (λ name. v.values column name ≡ value_named names (truths column) name) (names_of_asked asked).used
  pub fresh : (own : List ℕ × List Part) → definition_in (Some asked) ≡ Some own → has_name names own.0 ≡ false

-- ---- what is done

-- the plain command of a column
abbrev pub command_in : Valuations → (ℕ → SessionData) → SymbolLine → ℕ → Option Command
command_in v sessions asked column = asked_under (v.values column) (sessions column).circuit (sessions column).vectors asked

-- it is performed; if there is none, nothing changes and nothing is told
abbrev pub IsDone : SessionData → Option Command → SessionData → List Line → List GroupTextData → Type 0
IsDone old None new lines texts = (new ≡ old) × (lines ≡ []) × (texts ≡ [])
IsDone old (Some command) new lines texts = Performs old command new lines texts

-- what is asked for is done in each column, for which the same texts are analysed, and this is told
pub record IsDoneInAll (v : Valuations) (old : ℕ → SessionData) (asked : SymbolLine) (new : ℕ → SessionData) (told : List SymbolTold) (texts : List GroupTextData) :
    Type 0 where
  pub lines : ℕ → List Line
  pub each : (column : ℕ) → column < v.columns → IsDone (old column) (command_in v old asked column) (new column) (lines column) texts
  pub merged : Merges v old (Some asked) lines told

-- a column's command is refused so
pub record IsRefusedFor (session : SessionData) (command : Option Command) (refusal : Refusal) : Type 0 where
  pub own : Command
  pub asks : command ≡ Some own
  pub refused : refusal_of session own ≡ Some refusal

-- the circuit can't be built for it, since a group is too large
pub record IsOutgrownBy (session : SessionData) (command : Option Command) (fault : BuildFault) : Type 0 where
  pub own : Command
  pub asks : command ≡ Some own
  pub allowed : refusal_of session own ≡ None
  pub building : builds own ≡ true
  pub first : TellsRefused session.large session.circuit.graph fault

-- in each column the command is refused so, for a refusal with this code
pub record AreRefusedFor (v : Valuations) (sessions : ℕ → SessionData) (asked : SymbolLine) (code : FaultCode) : Type 0 where
  pub refusal : Refusal
  pub coded : refusal_code refusal ≡ code
  pub each : (column : ℕ) → column < v.columns → IsRefusedFor (sessions column) (command_in v sessions asked column) refusal

-- in each column the circuit can't be built
abbrev pub AreOutgrownBy : Valuations → (ℕ → SessionData) → SymbolLine → BuildFault → Type 0
AreOutgrownBy v sessions asked fault = (column : ℕ) → column < v.columns → IsOutgrownBy (sessions column) (command_in v sessions asked column) fault

-- ---- what tells nothing

-- all columns are as before
abbrev pub AreSame : ℕ → (ℕ → SessionData) → (ℕ → SessionData) → Type 0
AreSame columns old new = (column : ℕ) → column < columns → new column ≡ old column

-- what a command comes to that tells nothing and builds nothing, and is the same in each column
abbrev pub QuietlyAsked : {E : Type 0} → ℕ → (ℕ → SessionData) → Command → (ℕ → SessionData) → Result Turn E → Type 0
QuietlyAsked columns old command new (Ok Accepted) = (column : ℕ) → column < columns → Does (old column) command (new column) []
QuietlyAsked columns old command new (Ok (Refused code)) =
    ((refusal : Refusal) × (refusal_code refusal ≡ code) × ((column : ℕ) → column < columns → refusal_of (old column) command ≡ Some refusal)) × AreSame columns old new
QuietlyAsked columns old command new (Ok (TooLarge fault)) = ⊥
QuietlyAsked columns old command new (Err fault) = Unit {0}

-- what a line comes to that gives nodes values
abbrev pub GivesAsked : {E : Type 0} → Valuations → (ℕ → SessionData) → SymbolLine → (ℕ → SessionData) → Result Turn E → Type 0
GivesAsked v old asked new (Ok Accepted) =
    (column : ℕ) → column < v.columns → (own : Command) × (command_in v old asked column ≡ Some own) × (builds own ≡ false) ×
    Does (old column) own (new column) []
GivesAsked v old asked new (Ok (Refused code)) = AreRefusedFor v old asked code × AreSame v.columns old new
GivesAsked v old asked new (Ok (TooLarge fault)) = ⊥
GivesAsked v old asked new (Err fault) = Unit {0}

-- and one that says of names: it is refused only if it defines a name that is there
abbrev pub NamesAsked : {E : Type 0} → List (List ℕ) → SymbolLine → Result Turn E → Type 0
NamesAsked names asked (Ok Accepted) = Unit {0}
NamesAsked names asked (Ok (Refused code)) = (own : List ℕ × List Part) × (definition_in (Some asked) ≡ Some own) × (has_name names own.0 ≡ true)
NamesAsked names asked (Ok (TooLarge fault)) = ⊥
NamesAsked names asked (Err fault) = Unit {0}
