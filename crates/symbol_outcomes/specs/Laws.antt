-- Laws of symbolic scripts: each has an answer.
use Rattle.std.specs.Prelude.{ℕ, Bool, List, [], Option}
use Rattle.run_ends.specs.Answers.{Answer}
use Rattle.session_meaning.specs.Sessions.{IsReady, SessionData}
use Rattle.symbol_meaning.specs.Readings.{Valuations}
use Rattle.symbol_meaning.specs.Runs.{IsSymbolicAnswer}
use Rattle.symbol_run.specs.Turns.{RunsWith}
use Rattle.symbol_outcomes.specs.Families.{IsFamily}

-- lines run in all columns of a session, whatever they are: to their end, or to one that is refused in all of them
abbrev pub SymbolicLinesRun : Type 0
SymbolicLinesRun =
    (quiet : Bool) (v : Valuations) (cut : Option ℕ) (old : ℕ → SessionData) → IsFamily v.columns old → (lines : List (ℕ × List ℕ)) →
    RunsWith quiet v cut old lines []

-- so a symbolic script has an answer from ready data
abbrev pub SymbolicScriptsHaveAnswers : Type 0
SymbolicScriptsHaveAnswers =
    (cut : Option ℕ) (start : SessionData) → IsReady start → (lines : List (ℕ × List ℕ)) → (answer : Answer) × IsSymbolicAnswer cut start lines answer
