-- Laws of scripts: what comes of one is determined.
use Rattle.std.specs.Prelude.{◌≡◌, ℕ, List, Option}
use Rattle.settling.specs.Passes.{View}
use Rattle.session_meaning.specs.Sessions.{SessionData}
use Rattle.run_ends.specs.Answers.{Answer}
use Rattle.script_meaning.specs.Runs.{Reading, Outcome, Runs, IsScriptAnswer}
use Rattle.script_meaning.specs.Shown.{Shows}

-- a script runs in one way alone, however its lines are read: to one outcome
abbrev pub RunsAreUnique : Type 0
RunsAreUnique =
    (reading : Reading) (cut : Option ℕ) (start : SessionData) (lines : List (ℕ × List ℕ)) (outcome other : Outcome) →
    Runs reading cut start lines outcome → Runs reading cut start lines other → outcome ≡ other

-- so it has one answer
abbrev pub ScriptAnswersAreUnique : Type 0
ScriptAnswersAreUnique =
    (reading : Reading) (cut : Option ℕ) (start : SessionData) (lines : List (ℕ × List ℕ)) (answer other : Answer) →
    IsScriptAnswer reading cut start lines answer → IsScriptAnswer reading cut start lines other → answer ≡ other

-- lines that are obeyed from some data show one list of views, however they are read
abbrev pub ScriptsShowOneList : Type 0
ScriptsShowOneList =
    (reading : Reading) (cut : Option ℕ) (start : SessionData) (lines : List (ℕ × List ℕ)) (new other : SessionData) (shown more : List View) →
    Shows reading cut start lines new shown → Shows reading cut start lines other more → shown ≡ more
