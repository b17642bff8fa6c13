-- What a run of a script's lines comes to that is noted.
use Rattle.std.specs.Prelude.{◌≡◌, ℕ, ◌<◌, Bool, List, [], Option}
use Rattle.group_text.specs.Texts.{GroupTextData}
use Rattle.truth_makers.specs.declared.symbols.Symbols.{Symbols}
use Rattle.session_meaning.specs.Sessions.{SessionData}
use Rattle.script_meaning.specs.declared.halt.Halt.{Halt}
use Rattle.script_meaning.specs.declared.halt.Halt.TheVariants.{End, Refused, TooLarge}
use Rattle.symbol_meaning.specs.Readings.{Valuations, reading_under}
use Rattle.symbol_meaning.specs.Comparing.{ShowsWaves}
use Rattle.symbol_told.specs.Lines.{Telling}
use Rattle.symbol_told.specs.Noting.{NotesData}
use Rattle.symbol_comparing.specs.Notes.{names_of, shown_in}
use Rattle.symbol_run.specs.Halts.{HaltsInAll}
use Rattle.symbol_equiv.specs.Notes.{AreNotes}
use Rattle.symbol_equiv.specs.Words.{all_watched}

-- who hears nothing
abbrev pub Unheard : Type 0
Unheard = Unit {0}

abbrev pub hear_nothing : Unheard → Telling → Unheard
hear_nothing heard told = tt

-- how lines end in all columns, whatever was heard
abbrev pub HaltsWith : Bool → Valuations → Option ℕ → (ℕ → SessionData) → List (ℕ × List ℕ) → (ℕ → SessionData) → List GroupTextData → List GroupTextData → Halt → Type 0
HaltsWith quiet v cut start lines new asked known halt = HaltsInAll {H = Unheard} hear_nothing quiet v cut start lines new tt tt asked known halt

-- notes of lines that were obeyed to the end show in each column what these show there, by the words that they watch
pub record ShowsAll (symbols : Symbols) (quiet : Bool) (v : Valuations) (cut : Option ℕ) (start : ℕ → SessionData) (lines : List (ℕ × List ℕ)) (notes : NotesData) :
    Type 0 where
  pub whole : AreNotes symbols notes
  pub names : names_of notes.words ≡ all_watched quiet lines
  pub shows : (column : ℕ) → column < v.columns → (end : SessionData) ×
      ShowsWaves (reading_under quiet (v.values column)) cut [] (start column) lines end (shown_in symbols notes column)

-- how the lines end: at the end the notes show what they show
abbrev pub EndsNoted : Symbols → Bool → Valuations → Option ℕ → (ℕ → SessionData) → List (ℕ × List ℕ) → NotesData → Halt → Type 0
EndsNoted symbols quiet v cut start lines notes End = ShowsAll symbols quiet v cut start lines notes
EndsNoted symbols quiet v cut start lines notes (Refused number code) = Unit {0}
EndsNoted symbols quiet v cut start lines notes (TooLarge number fault) = Unit {0}

-- what lines come to; at a fault nothing is said
pub record RunsNoted (symbols : Symbols) (quiet : Bool) (v : Valuations) (cut : Option ℕ) (start : ℕ → SessionData) (lines : List (ℕ × List ℕ)) (new : ℕ → SessionData)
    (notes : NotesData) (asked known : List GroupTextData) (halt : Halt) : Type 0 where
  pub halts : HaltsWith quiet v cut start lines new asked known halt
  pub ends : EndsNoted symbols quiet v cut start lines notes halt
