-- What was told of the report of a circuit's groups is told of the answer to `groups`.
use Rattle.std.proofs.Common.{◌≡◌, ℕ, inr, List, Option, Ok, refl}
use Rattle.std.specs.Io.KnownBytes.{append_known}
use Rattle.ports.specs.Sending.{WritesPart}
use Rattle.netlist.specs.Circuits.{CircuitData}
use Rattle.group_report.specs.Report.{IsReport}
use Rattle.run_ends.specs.declared.stop.End.TheVariants as ended
use Rattle.run_ends.specs.declared.status.Status.TheVariants as status
use Rattle.run_ends.specs.Answers.{plain_answer, IsStopped}
use Rattle.circuit_reports.specs.Answers.{IsGroups}
use Rattle.run_ends.specs.Ends.{IsTold}

-- the whole report was written
pub told_report : (c : CircuitData) (old new : Option (List ℕ)) →
    (text : List ℕ) × IsReport c text × (new ≡ append_known old text) → IsTold (IsGroups c) old new (Ok ended.Done)
told_report c old new (text, report, grew) =
    record { answer = plain_answer status.Done text; right = (text, report, refl); ended = refl; grew = grew }

-- a part of it was written
pub told_part : (c : CircuitData) (old new : Option (List ℕ)) →
    (text : List ℕ) × IsReport c text × WritesPart old new text → IsStopped (IsGroups c) old new
told_part c old new (text, report, part) =
    inr (record { answer = plain_answer status.Done text; right = (text, report, refl); part = part })
