-- Inside the program: how many verdicts there are of each kind.
use Rattle.std.specs.Prelude.{ℕ, ◌+◌, List}
use Rattle.fault_sim.specs.declared.verdicts.Verdict.{Verdict}
use Rattle.fault_sim.specs.declared.verdicts.Verdict.TheVariants.{Detected, Refused, Possible, Undetected}
use Rattle.fault_meaning.specs.declared.counts.VerdictCounts.{VerdictCounts}
use Rattle.fault_meaning.specs.Judging.{LineVerdict, how_many, is_detected, is_refused, is_possible, is_undetected}

-- the counts of these verdicts
abbrev pub counts_of : List LineVerdict → VerdictCounts
counts_of judged = record {
  detected = how_many is_detected judged;
  possible = how_many is_possible judged;
  undetected = how_many is_undetected judged;
  refused = how_many is_refused judged;
}

-- how many verdicts were counted
abbrev pub total : VerdictCounts → ℕ
total counts = counts.detected + counts.possible + counts.undetected + counts.refused

-- the counts with one more verdict
abbrev pub with_verdict : VerdictCounts → Verdict → VerdictCounts
with_verdict old (Detected row entry) = record old { detected = old.detected + 1 }
with_verdict old (Refused at) = record old { refused = old.refused + 1 }
with_verdict old (Possible row entry) = record old { possible = old.possible + 1 }
with_verdict old Undetected = record old { undetected = old.undetected + 1 }
