-- What was told of a circuit's findings is told of the answer to `lint`.
use Rattle.std.proofs.Common.{◌≡◌, ℕ, inr, List, Option, Ok, refl, sym, ap, subst, ◌∙◌}
use Rattle.std.specs.Io.KnownBytes.{append_known}
use Rattle.ports.specs.Sending.{WritesPart}
use Rattle.netlist.specs.Circuits.{CircuitData}
use Rattle.circuit_lint.specs.Findings.{FindingsData, AreFindings}
use Rattle.circuit_lint.specs.Lines.{text_of}
use Rattle.run_ends.specs.declared.stop.End as end
use Rattle.run_ends.specs.Answers.{plain_answer, IsStopped}
use Rattle.run_ends.specs.Ends.{IsTold, status_of}
use Rattle.circuit_reports.specs.Answers.{IsLinted, lint_status}

module _ (c : CircuitData) (found : FindingsData) (are : AreFindings c found) (text : List ℕ) (same : text ≡ text_of c found) (old new : Option (List ℕ)) where
  -- all lines were written
  pub told_findings : (ending : end.End) → status_of ending ≡ lint_status found → new ≡ append_known old text → IsTold (IsLinted c) old new (Ok ending)
  told_findings ending is grew = record {
    answer = plain_answer (lint_status found) (text_of c found);
    right = (found, are, refl);
    ended = sym is;
    grew = grew ∙ ap (append_known old) same;
  }

  -- a part of them was written
  pub told_some : WritesPart old new text → IsStopped (IsLinted c) old new
  told_some part =
      inr (record { answer = plain_answer (lint_status found) (text_of c found); right = (found, are, refl); part = subst (WritesPart old new) same part })
