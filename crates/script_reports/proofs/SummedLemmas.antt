-- What was counted of the lines of a script is told by their summary, and the refusal that ended them by its line.
use Rattle.std.proofs.Common.{◌≡◌, ℕ, inl, inr, List, ◌++◌, Option, None, Some, Result, Ok, Err, refl, sym, ap, subst, ◌∙◌}
use Rattle.std.specs.Io.KnownBytes.{append_known}
use Rattle.ports.specs.Sending.{WritesPart}
use Rattle.group_text.specs.Texts.{GroupTextData}
use Rattle.circuit_texts.specs.declared.texts.BuildFault.{BuildFault}
use Rattle.printed_lines.specs.declared.faults.FaultPlace.TheVariants.{Script}
use Rattle.printed_lines.specs.declared.lines.Summary.{Summary}
use Rattle.printed_lines.specs.Lines.{summary_line_of}
use Rattle.told_lines.specs.Hearing.{hear_all, of_column}
use Rattle.told_lines.specs.Sums.{counted, summary_of}
use Rattle.told_lines.proofs.SumLemmas.{sums_totals}
use Rattle.session_meaning.specs.Sessions.{SessionData}
use Rattle.run_ends.specs.declared.status.Status.TheVariants.{Done, ScriptRefused}
use Rattle.run_ends.specs.declared.stop.Stop.{Stop}
use Rattle.run_ends.specs.declared.stop.End as end
use Rattle.run_ends.specs.Causes.{Cause, cause_line}
use Rattle.run_ends.specs.Answers.{Answer, plain_answer, IsRefusalFor, IsTooLarge}
use Rattle.run_ends.specs.Ends.{IsTold, IsToldBy}
use Rattle.script_meaning.specs.Runs.{RefusedLine, plain_reading}
use Rattle.script_meaning.specs.Halts.{HasObeyed, HasOutgrown}
use Rattle.script_reports.proofs.SizeLemmas.{told_too_large}
use Rattle.script_reports.specs.Summaries.{summed_up, IsBlank, IsSummedUp}

-- an answer with this text was told, and its texts were analysed
told_texts : (IsRight : Answer → Type 0) (answer : Answer) (old new : Option (List ℕ)) (asked told : List GroupTextData) (result : Result end.End Stop) →
    IsRight answer → told ≡ asked ++ answer.texts → IsTold (λ plain. plain ≡ plain_answer answer.status answer.text) old new result →
    IsToldBy IsRight old new asked told result
told_texts IsRight answer old new asked told (Ok ending) is analysed written = record {
  answer = answer;
  right = (is, analysed);
  ended = sym (ap (λ (plain : Answer). plain.status) written.right) ∙ written.ended;
  grew = written.grew ∙ ap (λ (plain : Answer). append_known old plain.text) written.right;
}
told_texts IsRight answer old new asked told (Err stop) is analysed (inl same) = inl same
told_texts IsRight answer old new asked told (Err stop) is analysed (inr begun) = inr (record {
  answer = answer;
  right = is;
  part = subst (λ (plain : Answer). WritesPart old new plain.text) begun.right begun.part;
})

module _ (cut : Option ℕ) (start : SessionData) (lines : List (ℕ × List ℕ)) (now : SessionData) (before after : Summary) (asked told : List GroupTextData)
    (old new : Option (List ℕ)) where
  -- the lines were obeyed to here, and counted
  abbrev Obeyed : Option RefusedLine → Type 0
  Obeyed last = HasObeyed counted plain_reading cut start lines now before after asked told last

  -- what was counted from the start is the summary of what the script told
  totals : IsBlank before → (last : Option RefusedLine) (obeyed : Obeyed last) → after ≡ summary_of before.nodes before.switches obeyed.outcome.lines
  totals blank last obeyed =
      obeyed.heard ∙ ap (λ (counts : Summary). hear_all counted counts (of_column 0 obeyed.outcome.lines)) blank
      ∙ sums_totals 0 before.nodes before.switches obeyed.outcome.lines

  -- the summary of a script that ran to its end
  pub told_counted : (result : Result end.End Stop) → IsBlank before → Obeyed None →
      IsTold (λ answer. answer ≡ plain_answer Done (summary_line_of after)) old new result →
      IsToldBy (IsSummedUp before.nodes before.switches cut start lines) old new asked told result
  told_counted result blank obeyed written =
      let answer : Answer = record { status = Done; text = summary_line_of after; texts = obeyed.outcome.texts } in
      let right : answer ≡ summed_up before.nodes before.switches obeyed.outcome =
      ap (λ (counts : Summary). record { status = Done; text = summary_line_of counts; texts = obeyed.outcome.texts }) (totals blank None obeyed)
      ∙ rw obeyed.stopped refl in
      told_texts (IsSummedUp before.nodes before.switches cut start lines) answer old new asked told result
      (record { outcome = obeyed.outcome; runs = obeyed.runs; told = right }) obeyed.analysed written

  -- the refusal of a line
  pub told_halted : (number : ℕ) (cause : Cause) (result : Result end.End Stop) → Obeyed (Some (record { line = number; cause = cause })) →
      IsTold (IsRefusalFor (Script number) cause ScriptRefused) old new result →
      IsToldBy (IsSummedUp before.nodes before.switches cut start lines) old new asked told result
  told_halted number cause result obeyed written =
      let answer : Answer = record { status = ScriptRefused; text = cause_line (Script number) cause; texts = obeyed.outcome.texts } in
      told_texts (IsSummedUp before.nodes before.switches cut start lines) answer old new asked told result
      (record { outcome = obeyed.outcome; runs = obeyed.runs; told = rw obeyed.stopped refl }) obeyed.analysed written

  -- and that of a line for whose command the circuit is too large
  pub told_outgrown : (number : ℕ) (fault : BuildFault) (result : Result end.End Stop) →
      HasOutgrown counted plain_reading cut start lines now before after asked told number fault →
      IsTold (IsTooLarge now.large now.circuit (Script number) ScriptRefused) old new result →
      IsToldBy (IsSummedUp before.nodes before.switches cut start lines) old new asked told result
  told_outgrown number fault result outgrown written =
      told_too_large now.large now.circuit (Script number) ScriptRefused (IsSummedUp before.nodes before.switches cut start lines) old new asked told result
      (λ large cause first named line. told_halted number cause result (outgrown.halted large cause first named) line) written
