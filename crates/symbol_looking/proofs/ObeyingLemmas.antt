-- A line of a symbolic script that tells is obeyed in all columns, by what was told of them together, and leaves the data of each as they are.
use Rattle.std.proofs.Common.{◌≡◌, ℕ, ◌<◌, Bool, false, List, [], ◌∷◌, Option, Some, None, refl, sym, ap, subst}
use Rattle.std.specs.Prelude.{Result, Ok}
use Rattle.ternary.specs.declared.tern.Tern.{Tern}
use Rattle.line_words.specs.Files.{is_cut}
use Rattle.script_lang.specs.declared.command.Command.{Command}
use Rattle.script_lang.specs.declared.command.Command.TheVariants as family
use Rattle.script_lang.specs.declared.command.ScriptFault.{ScriptFault}
use Rattle.script_lang.specs.declared.command.Tell.{Tell}
use Rattle.script_lang.specs.declared.command.Tell.TheVariants.{Show, Look}
use Rattle.told_lines.specs.Lines.{Line}
use Rattle.run_ends.specs.Causes.{plain_cause}
use Rattle.session_meaning.specs.declared.fault.Refusal.{Refusal}
use Rattle.session_meaning.specs.Sessions.{HeldSession, SessionData}
use Rattle.session_meaning.specs.Refusals.{refusal_of, refusal_of_tell}
use Rattle.session_meaning.specs.Columns.{column_of}
use Rattle.session_meaning.specs.Effects.{told_by, with_told}
use Rattle.session_meaning.specs.Outcomes.{Performs}
use Rattle.session_meaning.proofs.LineLemmas.{shown_told}
use Rattle.session_meaning.proofs.LookLemmas.{looked_told}
use Rattle.script_meaning.specs.Codes.{refusal_code}
use Rattle.script_meaning.specs.FirstRefused.IsObeyed.{done}
use Rattle.script_meaning.specs.Runs.{Asks}
use Rattle.script_meaning.specs.Runs.IsRefused.{refused}
use Rattle.symbol_script.specs.declared.line.SymbolLine.{SymbolLine}
use Rattle.symbol_script.specs.declared.line.SymbolLine.TheVariants.{Plain}
use Rattle.symbol_script.specs.Lines.{symbol_reading_of}
use Rattle.symbol_meaning.specs.Readings.{Valuations, command_under, reading_under}
use Rattle.symbol_meaning.specs.Told.{SymbolTold}
use Rattle.symbol_meaning.specs.Merging.{AreMerged, Merges}
use Rattle.symbol_meaning.specs.Runs.{AreRefused, IsObeyedInAll, asked_in}
use Rattle.symbol_told.specs.Printing.{lines_told}
use Rattle.symbol_stage.specs.Stages.{StageData, columns_on, states_in}
use Rattle.symbol_looking.specs.Names.{all_looked, all_shown}
use Rattle.symbol_looking.specs.Tellings.{tellings}
use Rattle.symbol_looking.proofs.MergingLemmas.{session_looked, session_shown}

-- the lines of what was told are these
pub lines_of_tellings : (lines : List SymbolTold) → lines_told (tellings lines) ≡ lines
lines_of_tellings [] = refl
lines_of_tellings (line ∷ lines) = ap (λ (others : List SymbolTold). line ∷ others) (lines_of_tellings lines)

-- ---- a column

-- what is told is told, and the data stay as they are
tells : (session : SessionData) (tell : Tell) → refusal_of session (family.Tell tell) ≡ None → session ≡ with_told session (told_by session tell) →
    Performs session (family.Tell tell) session (told_by session tell) []
tells session tell allowed same = record {
  mid = session;
  prepares = (refl, refl);
  does = record { allowed = allowed; effect = (same, refl) };
}

-- so it is if names are shown, and if nodes are looked at
pub shows : (session : SessionData) (names : List (List ℕ)) → refusal_of session (family.Tell (Show names)) ≡ None →
    Performs session (family.Tell (Show names)) session (told_by session (Show names)) []
shows session names allowed = tells session (Show names) allowed (shown_told session names)

pub looks : (session : SessionData) (names : List (List ℕ)) → refusal_of session (family.Tell (Look names)) ≡ None →
    Performs session (family.Tell (Look names)) session (told_by session (Look names)) []
looks session names allowed = tells session (Look names) allowed (looked_told session names)

-- ---- all columns

module _ (quiet : Bool) (v : Valuations) (cut : Option ℕ) (sessions : ℕ → SessionData) (line : ℕ × List ℕ) (inside : is_cut cut line.0 ≡ false)
    (command : Command) (asked : symbol_reading_of quiet line.1 ≡ Ok (Some (Plain command))) where
  -- in each column the line asks for the command
  asks : (column : ℕ) → Asks (reading_under quiet (v.values column)) cut (sessions column) line command
  asks column = record {
    inside = inside;
    asked = ap (command_under (v.values column) (sessions column).circuit (sessions column).vectors) asked;
  }

  -- a command that performs in each column, and whose lines are told together, is obeyed in all
  pub obeyed_in_all : (lines : ℕ → List Line) (told : List SymbolTold) →
      ((column : ℕ) → column < v.columns → Performs (sessions column) command (sessions column) (lines column) []) → AreMerged v.columns lines told →
      IsObeyedInAll quiet v cut sessions line sessions told []
  obeyed_in_all lines told performs merged = record {
    lines = lines;
    each = λ column within. done command (sessions column) (lines column) [] (asks column) (performs column within);
    merged = subst (λ (found : Result (Option SymbolLine) ScriptFault). Merges v sessions (asked_in found) lines told) (sym asked) merged;
  }

  -- one that is refused so in each column is refused in all
  pub refused_in_all : (refusal : Refusal) → ((column : ℕ) → column < v.columns → refusal_of (sessions column) command ≡ Some refusal) →
      AreRefused quiet v cut sessions line (plain_cause (refusal_code refusal))
  refused_in_all refusal is = λ column within. refused command refusal (asks column) (is column within) refl

-- ---- of a session

-- the data of its columns, with what isn't met and what is kept in each
module _ (session : HeldSession StageData) (missed : ℕ → Bool) (saves : ℕ → List (List ℕ × List Tern)) where
  abbrev own : ℕ → SessionData
  own column = record (column_of states_in session column) { missed = missed column; saves = saves column }

  module _ (quiet : Bool) (v : Valuations) (cut : Option ℕ) (line : ℕ × List ℕ) (as_many : v.columns ≡ columns_on session.stage) (names : List (List ℕ))
      (inside : is_cut cut line.0 ≡ false) where
    -- a line that tells what the columns tell is obeyed by it
    tells_obeyed : (tell : Tell) (all : List SymbolTold) → symbol_reading_of quiet line.1 ≡ Ok (Some (Plain (family.Tell tell))) →
        ((column : ℕ) → Performs (own column) (family.Tell tell) (own column) (told_by (own column) tell) []) →
        AreMerged (columns_on session.stage) (λ column. told_by (own column) tell) all → IsObeyedInAll quiet v cut own line own (lines_told (tellings all)) []
    tells_obeyed tell all asked performs merged =
        subst (λ (told : List SymbolTold). IsObeyedInAll quiet v cut own line own told []) (sym (lines_of_tellings all))
        (obeyed_in_all quiet v cut own line inside (family.Tell tell) asked (λ column. told_by (own column) tell) all (λ column within. performs column)
        (subst (λ (columns : ℕ). AreMerged columns (λ column. told_by (own column) tell) all) (sym as_many) merged))

    -- one that shows names by what `show` tells
    pub show_obeyed : symbol_reading_of quiet line.1 ≡ Ok (Some (Plain (family.Tell (Show names)))) →
        refusal_of_tell session.core.circuit session.core.vectors (Show names) ≡ None →
        IsObeyedInAll quiet v cut own line own (lines_told (tellings (all_shown session names))) []
    show_obeyed asked allowed = tells_obeyed (Show names) (all_shown session names) asked (λ column. shows (own column) names allowed) (session_shown session names)

    -- and one that looks at nodes by what `look` tells
    pub look_obeyed : symbol_reading_of quiet line.1 ≡ Ok (Some (Plain (family.Tell (Look names)))) →
        refusal_of_tell session.core.circuit session.core.vectors (Look names) ≡ None →
        IsObeyedInAll quiet v cut own line own (lines_told (tellings (all_looked session names))) []
    look_obeyed asked allowed = tells_obeyed (Look names) (all_looked session names) asked (λ column. looks (own column) names allowed) (session_looked session names)

    -- a refusal of either is one in each column
    pub tell_refused : (tell : Tell) (refusal : Refusal) → symbol_reading_of quiet line.1 ≡ Ok (Some (Plain (family.Tell tell))) →
        refusal_of_tell session.core.circuit session.core.vectors tell ≡ Some refusal → AreRefused quiet v cut own line (plain_cause (refusal_code refusal))
    tell_refused tell refusal asked found = refused_in_all quiet v cut own line inside (family.Tell tell) asked refusal (λ column within. found)
