-- Laws of symbolic scripts.
use Rattle.std.specs.Prelude.{◌≡◌, ℕ, ◌<◌, Bool, List, map, Option}
use Rattle.group_text.specs.Texts.{GroupTextData}
use Rattle.run_ends.specs.Answers.{Answer}
use Rattle.run_ends.specs.Causes.{Cause}
use Rattle.session_meaning.specs.Sessions.{SessionData}
use Rattle.script_meaning.specs.Runs.{RefusedLine, IsRefused, Outcome, Runs}
use Rattle.symbol_meaning.specs.Readings.{Valuations, reading_under}
use Rattle.symbol_meaning.specs.Told.{SymbolTold}
use Rattle.symbol_meaning.specs.Runs.{RunsInAll, IsSymbolicAnswer}

-- a column's run: the plain script that the script is under its valuation, to these data, with these texts and this refusal
pub record IsRunOf (quiet : Bool) (values : List ℕ → Bool) (cut : Option ℕ) (start : SessionData) (lines : List (ℕ × List ℕ)) (end : SessionData)
    (texts : List GroupTextData) (last : Option RefusedLine) : Type 0 where
  pub outcome : Outcome
  pub runs : Runs (reading_under quiet values) cut start lines outcome
  pub reached : outcome.end ≡ end
  pub analysed : outcome.texts ≡ texts
  pub stopped : outcome.refused ≡ last

-- each column of a script that runs in all is such a run
abbrev pub ValuationsRunPlainScripts : Type 0
ValuationsRunPlainScripts =
    (quiet : Bool) (v : Valuations) (cut : Option ℕ) (start : ℕ → SessionData) (lines : List (ℕ × List ℕ)) (end : ℕ → SessionData) (told : List SymbolTold)
    (texts : List GroupTextData) (last : Option RefusedLine) → RunsInAll quiet v cut start lines end told texts last →
    (column : ℕ) → column < v.columns → IsRunOf quiet (v.values column) cut (start column) lines (end column) texts last

-- two sessions differ in states alone, those of nodes and those that are kept, and in whether an expectation was not met
pub record AlikeButStates (one other : SessionData) : Type 0 where
  pub circuit : other.circuit ≡ one.circuit
  pub watched : other.watched ≡ one.watched
  pub clocks : other.clocks ≡ one.clocks
  pub limit : other.limit ≡ one.limit
  pub count : other.count ≡ one.count
  pub vectors : other.vectors ≡ one.vectors
  pub saves : map (λ save. save.0) other.saves ≡ map (λ save. save.0) one.saves
  pub bound : other.bound ≡ one.bound
  pub large : other.large ≡ one.large
  pub kept : other.kept ≡ one.kept
  pub fresh : other.fresh ≡ one.fresh

-- no refusal looks at a letter: a line that is refused under one valuation is refused so under any other
abbrev pub ValuationsRefuseAlike : Type 0
ValuationsRefuseAlike =
    (quiet : Bool) (values others : List ℕ → Bool) (cut : Option ℕ) (one other : SessionData) (line : ℕ × List ℕ) (cause : Cause) → AlikeButStates one other →
    IsRefused (reading_under quiet values) cut one line cause → IsRefused (reading_under quiet others) cut other line cause

-- a symbolic script has one answer
abbrev pub SymbolicAnswersAreUnique : Type 0
SymbolicAnswersAreUnique =
    (cut : Option ℕ) (start : SessionData) (lines : List (ℕ × List ℕ)) (answer other : Answer) → IsSymbolicAnswer cut start lines answer →
    IsSymbolicAnswer cut start lines other → answer ≡ other
