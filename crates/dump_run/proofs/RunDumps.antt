-- The dump of a script is that of its run, unless it ends at a word that is watched too late: the same lines are obeyed.
use Rattle.std.proofs.Common.{ℕ, ◌⊎◌, inl, inr, Bool, List, ◌++◌, Option, Some, refl, ap, subst}
use Rattle.group_text.specs.Texts.{GroupTextData}
use Rattle.session_meaning.specs.Sessions.{SessionData}
use Rattle.run_ends.specs.Causes.{Cause}
use Rattle.script_meaning.specs.Runs.{Outcome, RefusedLine, Runs, plain_reading, at_end, after_command, refused_at}
use Rattle.script_meaning.specs.Runs.Runs.{ends as run_ends, passes as run_passes, obeys as run_obeys, refuses as run_refuses}
use Rattle.script_meaning.proofs.UniqueRuns.{runs_unique}
use Rattle.dump_run.specs.Dumped.{Dumped, Dumps, as_ever, too_late, ends, passes, obeys, refuses}
use Rattle.dump_run.specs.Laws.{IsLate, IsDumpOf, DumpsHaveRuns, DumpsAreRuns}

-- it ends too late, or is that of a run
abbrev HasRun : Option ℕ → SessionData → List (ℕ × List ℕ) → Dumped → Type 0
HasRun cut start lines dumped = IsLate dumped ⊎ ((outcome : Outcome) × Runs plain_reading cut start lines outcome × IsDumpOf outcome dumped)

-- the refusal of the line with this number
abbrev refusal_at : ℕ → Cause → Option RefusedLine
refusal_at number cause = Some (record { line = number; cause = cause })

run_of : {cut : Option ℕ} {begun : Bool} {start : SessionData} {lines : List (ℕ × List ℕ)} {dumped : Dumped} → Dumps cut begun start lines dumped →
    HasRun cut start lines dumped
run_of (ends begun session) = inr (at_end session, run_ends session, record { end = refl; refused = refl; texts = refl })
run_of (passes begun session line lines rest is dumps) = elim (run_of dumps) [
  | inl late ↦ inl late
  | inr run ↦ inr (run.0, run_passes session line lines run.0 is run.1, run.2)
]
run_of (obeys begun session new line lines command through wrote texts rest asks timely performs passing dumps) = elim (run_of dumps) [
  | inl late ↦ inl (record { line = late.line; refused = late.refused })
  | inr run ↦ inr (
    after_command wrote texts run.0,
    run_obeys session new line lines command wrote texts run.0 asks performs run.1,
    record { end = run.2.end; refused = run.2.refused; texts = ap (λ (others : List GroupTextData). texts ++ others) run.2.texts },
  )
]
run_of (refuses begun session line lines cause (as_ever is alone)) =
    inr (refused_at session line.0 cause, run_refuses session line lines cause is, record { end = refl; refused = refl; texts = refl })
run_of (refuses begun session line lines cause (too_late command asks late is)) =
    inl (record { line = line.0; refused = ap (refusal_at line.0) is })

pub dumps_run : DumpsHaveRuns
dumps_run cut begun start lines dumped dumps = run_of dumps

pub dump_of_run : DumpsAreRuns
dump_of_run cut begun start lines dumped outcome dumps run prompt = by (run_of dumps)
  where
    by : HasRun cut start lines dumped → IsDumpOf outcome dumped
    by (inl late) = absurd (prompt late)
    by (inr (other, way, is)) =
        subst (λ (it : Outcome). IsDumpOf it dumped) (runs_unique plain_reading cut start lines other outcome way run) is
