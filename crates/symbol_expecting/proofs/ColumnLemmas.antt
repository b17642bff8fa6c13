-- What an `expect` comes to in each column: there the command of a plain script is obeyed, which writes the lines of its own assignments that aren't met,
-- or is refused. And it comes to the same beside what is kept in each column, and whether an expectation isn't met there.
use Rattle.std.proofs.Common.{◌≡◌, ℕ, ◌<◌, Bool, false, List, [], Option, Some, inl, inr, refl, sym, ap, ap₂, subst}
use Rattle.std.specs.Prelude.{Result, Ok, Err}
use Rattle.ternary.specs.declared.tern.Tern.{Tern}
use Rattle.line_words.specs.Files.{is_cut}
use Rattle.script_lang.specs.declared.command.ScriptFault.{ScriptFault}
use Rattle.run_ends.specs.Causes.{plain_cause}
use Rattle.session_meaning.specs.declared.fault.Refusal.{Refusal}
use Rattle.session_meaning.specs.Outcomes.{Performs}
use Rattle.session_meaning.specs.Sessions.{HeldSession, SessionData}
use Rattle.script_meaning.specs.Codes.{refusal_code}
use Rattle.script_meaning.specs.Runs.{Asks}
use Rattle.script_meaning.specs.Runs.IsRefused.{refused}
use Rattle.script_meaning.specs.FirstRefused.IsObeyed.{done}
use Rattle.symbol_script.specs.declared.line.Assignment.{Assignment}
use Rattle.symbol_script.specs.declared.line.SymbolLine.{SymbolLine}
use Rattle.symbol_script.specs.declared.line.SymbolLine.TheVariants as asks_for
use Rattle.symbol_script.specs.declared.line.ValueVerb.TheVariants as verb
use Rattle.symbol_script.specs.Lines.{symbol_reading_of}
use Rattle.symbol_meaning.specs.Readings.{Valuations, command_under, reading_under}
use Rattle.symbol_meaning.specs.Told.{SymbolTold}
use Rattle.symbol_meaning.specs.Merging.{AreToldOf, Merges}
use Rattle.symbol_meaning.specs.Runs.{asked_in, AreRefused, IsObeyedInAll}
use Rattle.symbol_told.specs.Lines.{Telling}
use Rattle.symbol_stage.specs.Stages.{StageData, columns_on}
use Rattle.symbol_giving.specs.Giving.{data_of}
use Rattle.symbol_giving.specs.Letters.{OnlyMakes}
use Rattle.symbol_expecting.specs.Expecting.{after_expect, expect_in, unmet_in_column, AreAllowed, AreRefusedFor, ExpectsInAll, IsToldInPart, IsToldWhole}
use Rattle.symbol_expecting.specs.declared.fault.ExpectFault.{ExpectFault}
use Rattle.symbol_expecting.specs.declared.fault.ExpectFault.TheVariants.{Refused, Full, NoMemory, Unheard}
use Rattle.symbol_expecting.proofs.ToldLemmas.{all_alike}

-- ---- a line of a script

-- a line that asks for an `expect`
module _ (quiet : Bool) (v : Valuations) (cut : Option ℕ) (line : ℕ × List ℕ) (list : List Assignment) (inside : is_cut cut line.0 ≡ false)
    (read : symbol_reading_of quiet line.1 ≡ Ok (Some (asks_for.Values verb.Expect list))) (old : ℕ → SessionData) where
  -- it asks in each column for the command of a plain script
  asks_in : (column : ℕ) → Asks (reading_under quiet (v.values column)) cut (old column) line (expect_in v old list column)
  asks_in column = record {
    inside = inside;
    asked = ap (λ (answer : Result (Option SymbolLine) ScriptFault). command_under (v.values column) (old column).circuit (old column).vectors answer) read;
  }

  -- which writes its own lines
  performs_in : (new : ℕ → SessionData) → AreAllowed v old list → (column : ℕ) → column < v.columns → new column ≡ after_expect v old list column →
      Performs (old column) (expect_in v old list column) (new column) (unmet_in_column v old list column) []
  performs_in new allowed column within moved = record {
    mid = old column;
    prepares = (refl, refl);
    does = record { allowed = allowed column within; effect = (moved, refl) };
  }

  -- so the line is obeyed in all columns, and this is told
  pub expect_obeyed : (new : ℕ → SessionData) (told : List SymbolTold) → AreAllowed v old list → AreToldOf v old list told →
      ((column : ℕ) → column < v.columns → new column ≡ after_expect v old list column) → IsObeyedInAll quiet v cut old line new told []
  expect_obeyed new told allowed right moved = record {
    lines = unmet_in_column v old list;
    each = λ column within.
        done (expect_in v old list column) (new column) (unmet_in_column v old list column) [] (asks_in column)
        (performs_in new allowed column within (moved column within));
    merged = subst (λ (answer : Result (Option SymbolLine) ScriptFault). Merges v old (asked_in answer) (unmet_in_column v old list) told) (sym read) right;
  }

  -- or it is refused in all
  pub expect_refused : (refusal : Refusal) → AreRefusedFor v old list refusal → AreRefused quiet v cut old line (plain_cause (refusal_code refusal))
  expect_refused refusal are = λ column within.
      refused (expect_in v old list column) refusal (asks_in column) (are column within) refl

-- ---- beside what is kept

-- the data of each column beside whether an expectation isn't met there, and the states that are kept there
abbrev pub beside : (ℕ → SessionData) → (ℕ → Bool) → (ℕ → List (List ℕ × List Tern)) → ℕ → SessionData
beside sessions missed saves column = record (sessions column) { missed = missed column; saves = saves column }

module _ (v : Valuations) (sessions : ℕ → SessionData) (missed : ℕ → Bool) (saves : ℕ → List (List ℕ × List Tern)) (list : List Assignment) where
  -- what is told of assignments doesn't hang on them
  pub told_beside : (told : List SymbolTold) → AreToldOf v sessions list told → AreToldOf v (beside sessions missed saves) list told
  told_beside told are =
      all_alike v sessions (beside sessions missed saves)
      (λ column inside. record { circuit = refl; vectors = refl; state = refl; count = refl }) list told are

  whole_beside : {H : Type 0} (hear : H → Telling → H) (before after : H) (told : Bool) → IsToldWhole (AreToldOf v sessions list) hear before after told →
      IsToldWhole (AreToldOf v (beside sessions missed saves) list) hear before after told
  whole_beside hear before after told is =
      record { told = is.told; right = told_beside is.told is.right; heard = is.heard; some = is.some }

  part_beside : {H : Type 0} (hear : H → Telling → H) (part : H → Telling → H → Type 0) (before after : H) →
      IsToldInPart (AreToldOf v sessions list) hear part before after → IsToldInPart (AreToldOf v (beside sessions missed saves) list) hear part before after
  part_beside hear part before after is = record { told = is.told; right = told_beside is.told is.right; heard = is.heard }

  -- so an `expect` comes to the same beside them
  pub expects_beside : {H : Type 0} (hear : H → Telling → H) (part : H → Telling → H → Type 0) (before after : H) (result : Result Bool ExpectFault) →
      ExpectsInAll hear part v sessions list before after result →
      ExpectsInAll hear part v (λ column. record (sessions column) { missed = missed column; saves = saves column }) list before after result
  expects_beside hear part before after (Ok told) is = (is.0, whole_beside hear before after told is.1)
  expects_beside hear part before after (Err (Refused refusal)) is = is
  expects_beside hear part before after (Err Full) is = (is.0, part_beside hear part before after is.1)
  expects_beside hear part before after (Err NoMemory) (inl same) = inl same
  expects_beside hear part before after (Err NoMemory) (inr is) = inr (is.0, part_beside hear part before after is.1)
  expects_beside hear part before after (Err (Unheard fault)) is = (is.0, part_beside hear part before after is.1)

-- ---- more functions

-- where the maker makes more, the columns' data are as before
pub data_more : (old new : HeldSession StageData) → OnlyMakes old new → (column : ℕ) → column < columns_on old.stage → data_of new column ≡ data_of old column
data_more old new only column inside =
    ap₂ (λ (core : SessionData) (state : List Tern). record core { state = state }) only.core (only.makes.states column inside)
