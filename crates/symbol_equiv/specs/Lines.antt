-- What one line comes to that is noted.
use Rattle.std.specs.Prelude.{◌≡◌, ℕ, ◌<◌, Bool, List, ◌++◌, filter_map, Option, Result}
use Rattle.group_text.specs.Texts.{GroupTextData}
use Rattle.truth_makers.specs.declared.symbols.Symbols.{Symbols}
use Rattle.session_meaning.specs.Sessions.{SessionData}
use Rattle.script_meaning.specs.declared.turn.Turn.{Turn}
use Rattle.symbol_meaning.specs.Readings.{Valuations, reading_under}
use Rattle.symbol_meaning.specs.Comparing.{shown_by, words_of_line}
use Rattle.symbol_meaning.specs.Runs.{IsObeyedInAll}
use Rattle.symbol_told.specs.Lines.{Telling}
use Rattle.symbol_told.specs.Noting.{NotesData}
use Rattle.symbol_told.specs.Printing.{lines_told}
use Rattle.symbol_comparing.specs.Notes.{names_of, shown_in}
use Rattle.symbol_run.specs.declared.session.SymbolFault.{SymbolFault}
use Rattle.symbol_equiv.specs.Notes.{AreNotes}
use Rattle.symbol_equiv.specs.Waves.{TakesTurnBy}
use Rattle.symbol_equiv.specs.Words.{names_watched}

-- the line is obeyed in each column, and its texts were analysed; notes show what they showed, and behind it the waveform lines of each column by the
-- words that were watched before the line; and then those that it watches are watched
pub record IsNoted (old_maker new_maker : Symbols) (quiet : Bool) (v : Valuations) (cut : Option ℕ) (old : ℕ → SessionData) (line : ℕ × List ℕ)
    (new : ℕ → SessionData) (before after : NotesData) (asked known : List GroupTextData) : Type 0 where
  pub told : List Telling
  pub texts : List GroupTextData
  pub obeyed : IsObeyedInAll quiet v cut old line new (lines_told told) texts
  pub analysed : known ≡ asked ++ texts
  pub whole : AreNotes new_maker after
  pub names : names_of after.words ≡ names_of before.words ++ names_watched quiet line
  pub words : (column : ℕ) → column < v.columns → after.words ≡ before.words ++ words_of_line (reading_under quiet (v.values column)) (old column) line
  pub shown : (column : ℕ) → column < v.columns →
      shown_in new_maker after column ≡ shown_in old_maker before column ++ filter_map (shown_by before.words) (obeyed.lines column)

-- what one line comes to
abbrev pub TakesTurnNoted : Symbols → Symbols → Bool → Valuations → Option ℕ → (ℕ → SessionData) → ℕ × List ℕ → (ℕ → SessionData) → NotesData → NotesData →
    List GroupTextData → List GroupTextData → Result Turn SymbolFault → Type 0
TakesTurnNoted old_maker new_maker quiet v cut old line new before after asked known =
    TakesTurnBy (IsNoted old_maker new_maker quiet v cut old line new before after asked known) quiet v cut old line new before after asked known
