-- Laws of dumps: what comes of one is determined.
use Rattle.std.specs.Prelude.{◌≡◌, ℕ, ◌⊎◌, Bool, List, Option, Some}
use Rattle.session_meaning.specs.Sessions.{SessionData}
use Rattle.printed_lines.specs.declared.faults.FaultCode.TheVariants.{S17LateWatch}
use Rattle.run_ends.specs.Answers.{Answer}
use Rattle.run_ends.specs.Causes.{plain_cause}
use Rattle.script_meaning.specs.Runs.{Outcome, Runs, plain_reading}
use Rattle.dump_run.specs.Dumped.{Dumped, Dumps, IsDumpFrom}

-- a script is dumped in one way alone, once a step or a phase was told or before: its scenes, its texts of groups, its end and its refusal are
-- determined
abbrev pub DumpsAreUnique : Type 0
DumpsAreUnique =
    (cut : Option ℕ) (begun : Bool) (start : SessionData) (lines : List (ℕ × List ℕ)) (dumped other : Dumped) →
    Dumps cut begun start lines dumped → Dumps cut begun start lines other → dumped ≡ other

-- so the dump of its run from some data is one answer
abbrev pub DumpAnswersAreUnique : Type 0
DumpAnswersAreUnique =
    (script : List ℕ) (start : SessionData) (answer other : Answer) → IsDumpFrom script start answer → IsDumpFrom script start other → answer ≡ other

-- the dump ends at a word that is watched too late, at which a run goes on
pub record IsLate (dumped : Dumped) : Type 0 where
  pub line : ℕ
  pub refused : dumped.refused ≡ Some (record { line = line; cause = plain_cause S17LateWatch })

-- the dump is that of a run: both come to the same data and the same refusal, if one ends them, and the same texts of groups are analysed
pub record IsDumpOf (outcome : Outcome) (dumped : Dumped) : Type 0 where
  pub end : dumped.end ≡ outcome.end
  pub refused : dumped.refused ≡ outcome.refused
  pub texts : dumped.texts ≡ outcome.texts

-- a script that is dumped runs, and its dump is that of this run, unless it ends at a word that is watched too late
abbrev pub DumpsHaveRuns : Type 0
DumpsHaveRuns =
    (cut : Option ℕ) (begun : Bool) (start : SessionData) (lines : List (ℕ × List ℕ)) (dumped : Dumped) → Dumps cut begun start lines dumped →
    IsLate dumped ⊎ ((outcome : Outcome) × Runs plain_reading cut start lines outcome × IsDumpOf outcome dumped)

-- so it is that of each run of the script
abbrev pub DumpsAreRuns : Type 0
DumpsAreRuns =
    (cut : Option ℕ) (begun : Bool) (start : SessionData) (lines : List (ℕ × List ℕ)) (dumped : Dumped) (outcome : Outcome) →
    Dumps cut begun start lines dumped → Runs plain_reading cut start lines outcome → ¬ IsLate dumped → IsDumpOf outcome dumped
