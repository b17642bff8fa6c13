-- Laws of scripts in columns: what one answers is determined.
use Rattle.std.specs.Prelude.{◌≡◌, ℕ, ◌<◌, List, Option}
use Rattle.session_meaning.specs.Sessions.{SessionData}
use Rattle.run_ends.specs.Answers.{Answer}
use Rattle.column_run.specs.ColumnAnswers.{IsColumnAnswer}

-- a script in one column or more has one answer
abbrev pub ColumnAnswersAreUnique : Type 0
ColumnAnswersAreUnique =
    (columns : ℕ) (cut : Option ℕ) (start : ℕ → SessionData) (lines : List (ℕ × List ℕ)) (answer other : Answer) → 0 < columns →
    IsColumnAnswer columns cut start lines answer → IsColumnAnswer columns cut start lines other → answer ≡ other
