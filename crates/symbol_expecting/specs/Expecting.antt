-- What an `expect` of a symbolic script comes to: what is told of it in all columns together was heard, or at a fault a front of that.
use Rattle.std.specs.Prelude.{◌≡◌, ◌⊎◌, ℕ, ◌<◌, Bool, ◌||◌, List, map, None, Some, Result, Ok, Err}
use Rattle.std.specs.List.{list_any}
use Rattle.script_lang.specs.declared.value.Value.{Value}
use Rattle.script_lang.specs.declared.command.Command.{Command}
use Rattle.script_lang.specs.declared.command.Command.TheVariants as family
use Rattle.script_lang.specs.declared.command.Tell.TheVariants as asked
use Rattle.told_lines.specs.Hearing.{hear_all, HearsFront}
use Rattle.told_lines.specs.Lines as of_one
use Rattle.told_lines.specs.Lines.{Line}
use Rattle.formula_functions.specs.Tables.{TableData}
use Rattle.session_meaning.specs.declared.fault.Refusal.{Refusal}
use Rattle.session_meaning.specs.Sessions.{HeldSession, SessionData}
use Rattle.session_meaning.specs.Effects.{unmet_lines}
use Rattle.session_meaning.specs.Refusals.{refusal_of}
use Rattle.symbol_script.specs.declared.line.Assignment.{Assignment}
use Rattle.symbol_meaning.specs.Readings.{Valuations, plain_under, truths_in}
use Rattle.symbol_meaning.specs.Told.{SymbolTold, is_unmet}
use Rattle.symbol_meaning.specs.Merging.{AreToldOf}
use Rattle.symbol_told.specs.Lines.{Telling}
use Rattle.symbol_stage.specs.Stages.{StageData, columns_on}
use Rattle.symbol_giving.specs.Letters.{named_in}
use Rattle.symbol_expecting.specs.Telling.{tellings}
use Rattle.symbol_expecting.specs.declared.fault.ExpectFault.{ExpectFault}
use Rattle.symbol_expecting.specs.declared.fault.ExpectFault.TheVariants.{Refused, Full, NoMemory, Unheard}

-- ---- what a column does

-- the assignments of a column's plain script
abbrev pub plain_in : Valuations → (ℕ → SessionData) → List Assignment → ℕ → List (List ℕ × Value)
plain_in v sessions list column = map (plain_under (v.values column) (sessions column).circuit (sessions column).vectors) list

-- its command
abbrev pub expect_in : Valuations → (ℕ → SessionData) → List Assignment → ℕ → Command
expect_in v sessions list column = family.Tell (asked.Expect (plain_in v sessions list column))

-- the lines that it writes: of the assignments that aren't met there
abbrev pub unmet_in_column : Valuations → (ℕ → SessionData) → List Assignment → ℕ → List Line
unmet_in_column v sessions list column = unmet_lines (sessions column) (plain_in v sessions list column)

-- whether an expectation isn't met there, after it
abbrev pub missed_after : Valuations → (ℕ → SessionData) → List Assignment → ℕ → Bool
missed_after v sessions list column = (sessions column).missed || list_any of_one.is_unmet (unmet_in_column v sessions list column)

-- the data of a column after it
abbrev pub after_expect : Valuations → (ℕ → SessionData) → List Assignment → ℕ → SessionData
after_expect v sessions list column = record (sessions column) { missed = missed_after v sessions list column }

-- ---- what is refused

-- in each column it isn't refused, or is for this
abbrev pub AreAllowed : Valuations → (ℕ → SessionData) → List Assignment → Type 0
AreAllowed v sessions list = (column : ℕ) → column < v.columns → refusal_of (sessions column) (expect_in v sessions list column) ≡ None

abbrev pub AreRefusedFor : Valuations → (ℕ → SessionData) → List Assignment → Refusal → Type 0
AreRefusedFor v sessions list refusal = (column : ℕ) → column < v.columns → refusal_of (sessions column) (expect_in v sessions list column) ≡ Some refusal

-- ---- what is told

-- what is told of assignments was heard, and whether that is anything
pub record IsToldWhole (IsRight : List SymbolTold → Type 0) {H : Type 0} (hear : H → Telling → H) (before after : H) (missed : Bool) : Type 0 where
  pub told : List SymbolTold
  pub right : IsRight told
  pub heard : after ≡ hear_all hear before (tellings told)
  pub some : missed ≡ list_any is_unmet told

-- of what is told a front was heard, and of its next line a part, or nothing
pub record IsToldInPart (IsRight : List SymbolTold → Type 0) {H : Type 0} (hear : H → Telling → H) (part : H → Telling → H → Type 0) (before after : H) : Type 0 where
  pub told : List SymbolTold
  pub right : IsRight told
  pub heard : HearsFront hear part before after (tellings told)

-- the one, or at a fault that is no refusal the other
abbrev pub Tells : (List SymbolTold → Type 0) → {H : Type 0} → (H → Telling → H) → (H → Telling → H → Type 0) → H → H → Result Bool ExpectFault → Type 0
Tells IsRight hear part before after (Ok missed) = IsToldWhole IsRight hear before after missed
Tells IsRight hear part before after (Err fault) = IsToldInPart IsRight hear part before after

-- what an `expect` comes to in all columns: it is refused before anything is told, and so it may be that memory ran out
abbrev pub ExpectsInAll : {H : Type 0} → (H → Telling → H) → (H → Telling → H → Type 0) → Valuations → (ℕ → SessionData) → List Assignment → H → H →
    Result Bool ExpectFault → Type 0
ExpectsInAll hear part v sessions list before after (Ok missed) =
    AreAllowed v sessions list × IsToldWhole (AreToldOf v sessions list) hear before after missed
ExpectsInAll hear part v sessions list before after (Err (Refused refusal)) = AreRefusedFor v sessions list refusal × (after ≡ before)
ExpectsInAll hear part v sessions list before after (Err Full) = AreAllowed v sessions list × IsToldInPart (AreToldOf v sessions list) hear part before after
ExpectsInAll hear part v sessions list before after (Err NoMemory) =
    (after ≡ before) ⊎ (AreAllowed v sessions list × IsToldInPart (AreToldOf v sessions list) hear part before after)
ExpectsInAll hear part v sessions list before after (Err (Unheard fault)) =
    AreAllowed v sessions list × IsToldInPart (AreToldOf v sessions list) hear part before after

-- ---- valuations

-- the valuations are those of the variables of a session's functions, and in each column each assignment is by the functions of names what it is by
-- the valuation
pub record AreMeantBy (session : HeldSession StageData) (table : TableData) (list : List Assignment) (v : Valuations) : Type 0 where
  pub columns : v.columns ≡ columns_on session.stage
  pub truths : (column : ℕ) → column < v.columns → v.truths column ≡ truths_in session.stage.machine.maker.graph.variables column
  pub plain : (column : ℕ) → column < v.columns →
      map (plain_under (v.values column) session.core.circuit session.core.vectors) list
      ≡ map (plain_under (named_in session.stage table column) session.core.circuit session.core.vectors) list
