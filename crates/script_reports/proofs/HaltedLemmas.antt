-- Where the lines of a script that aren't written ended: what was told of the data then, or of the refusal that ended them, is told of an answer
-- that has this at its end, whichever one it is.
use Rattle.std.proofs.Common.{ℕ, inl, inr, List, [], ◌∷◌, Option, Some, Result, Ok, Err, refl, sym, ap, subst, ◌∙◌}
use Rattle.std.specs.Io.KnownBytes.{append_known}
use Rattle.ports.specs.Sending.{WritesPart}
use Rattle.line_words.specs.Files.{lines_in, cut_line}
use Rattle.netlist.specs.Circuits.{CircuitData}
use Rattle.group_text.specs.Texts.{GroupTextData}
use Rattle.circuit_texts.specs.declared.texts.BuildFault.{BuildFault}
use Rattle.printed_lines.specs.declared.faults.FaultPlace.TheVariants.{Script}
use Rattle.told_lines.specs.Hearing.{of_column}
use Rattle.told_lines.specs.Printing.{Page, print, PrintsPart}
use Rattle.told_lines.proofs.PrintingLemmas.{written-all, written-front, refusal-printed}
use Rattle.session_meaning.specs.Sessions.{SessionData, start_of}
use Rattle.run_ends.specs.declared.status.Status.{Status}
use Rattle.run_ends.specs.declared.status.Status.TheVariants.{ScriptRefused}
use Rattle.script_meaning.specs.declared.halt.Halt.{Halt}
use Rattle.script_meaning.specs.declared.halt.Halt.TheVariants.{End, Refused, TooLarge}
use Rattle.run_ends.specs.declared.stop.End as end
use Rattle.run_ends.specs.declared.stop.Stop.{Stop}
use Rattle.run_ends.specs.Causes.{Cause, cause_line}
use Rattle.script_meaning.specs.Runs.{Outcome, RefusedLine, Runs, plain_reading, refusal_line, refusal_text}
use Rattle.run_ends.specs.Answers.{Answer, plain_answer, IsRefusalFor, IsTooLarge}
use Rattle.script_meaning.specs.Halts.{HasObeyed, HasOutgrown, HaltsAt, TellsRefusal}
use Rattle.run_ends.specs.Ends.{IsTold, IsToldBy, status_of}
use Rattle.run_ends.proofs.EndLemmas.{told_as}
use Rattle.script_reports.proofs.SizeLemmas.{told_too_large}
use Rattle.script_reports.specs.Explaining.{TellsSize, hear_nothing}

-- an answer that has this status and text at the end of a script, which is the line of the refusal if one ended it
module _ (script : List ℕ) (circuit : CircuitData) (new : SessionData) (old last : Option (List ℕ)) (asked told : List GroupTextData)
    (At : SessionData → Option RefusedLine → Status → List ℕ → Type 0) (Is : Answer → Type 0)
    (right : (outcome : Outcome) → Runs plain_reading (cut_line script) (start_of circuit) (lines_in script) outcome → (answer : Answer) →
    At outcome.end outcome.refused answer.status answer.text → Is (record { status = answer.status; text = answer.text; texts = outcome.texts }))
    (refused : (stopped : RefusedLine) → At new (Some stopped) ScriptRefused (refusal_text (Some stopped))) where
  -- the lines were obeyed to here
  abbrev Obeyed : Option RefusedLine → Type 0
  Obeyed stopped = HasObeyed hear_nothing plain_reading (cut_line script) (start_of circuit) (lines_in script) new tt tt asked told stopped

  -- such a status and text, with the texts that were analysed, are a right answer
  right_at : (stopped : Option RefusedLine) (obeyed : Obeyed stopped) (answer : Answer) → At new stopped answer.status answer.text →
      Is (record { status = answer.status; text = answer.text; texts = obeyed.outcome.texts })
  right_at stopped obeyed answer at =
      right obeyed.outcome obeyed.runs answer
      (subst (λ (session : SessionData). At session obeyed.outcome.refused answer.status answer.text) (sym obeyed.reached)
      (subst (λ (line : Option RefusedLine). At new line answer.status answer.text) (sym obeyed.stopped) at))

  pub told_at : (stopped : Option RefusedLine) (result : Result end.End Stop) → Obeyed stopped →
      IsTold (λ (answer : Answer). At new stopped answer.status answer.text) old last result → IsToldBy Is old last asked told result
  told_at stopped (Ok ending) obeyed written = record {
    answer = record { status = written.answer.status; text = written.answer.text; texts = obeyed.outcome.texts };
    right = (right_at stopped obeyed written.answer written.right, obeyed.analysed);
    ended = written.ended;
    grew = written.grew;
  }
  told_at stopped (Err stop) obeyed (inl same) = inl same
  told_at stopped (Err stop) obeyed (inr begun) = inr (record {
    answer = record { status = begun.answer.status; text = begun.answer.text; texts = obeyed.outcome.texts };
    right = right_at stopped obeyed begun.answer begun.right;
    part = begun.part;
  })

  -- of a refused line
  pub told_line : (number : ℕ) (cause : Cause) (result : Result end.End Stop) → Obeyed (Some (record { line = number; cause = cause })) →
      IsTold (IsRefusalFor (Script number) cause ScriptRefused) old last result → IsToldBy Is old last asked told result
  told_line number cause result obeyed written =
      let stopped : RefusedLine = record { line = number; cause = cause } in
      told_at (Some stopped) result obeyed
      (told_as (IsRefusalFor (Script number) cause ScriptRefused) (λ (answer : Answer). At new (Some stopped) answer.status answer.text) old last result
      (λ answer is. subst (λ (told : Answer). At new (Some stopped) told.status told.text) (sym is) (refused stopped)) written)

  -- and of a line for which the circuit is too large
  pub told_size : (number : ℕ) (fault : BuildFault) (result : Result end.End Stop) →
      HasOutgrown hear_nothing plain_reading (cut_line script) (start_of circuit) (lines_in script) new tt tt asked told number fault →
      IsTold (IsTooLarge new.large new.circuit (Script number) ScriptRefused) old last result → IsToldBy Is old last asked told result
  told_size number fault result outgrown written =
      told_too_large new.large new.circuit (Script number) ScriptRefused Is old last asked told result
      (λ large cause first named line. told_line number cause result (outgrown.halted large cause first named) line) written

-- lines that end since a group is too large tell the first such group
pub halted_size : (script : List ℕ) (circuit : CircuitData) (new : SessionData) (asked told : List GroupTextData) (halt : Halt) →
    HaltsAt hear_nothing plain_reading (cut_line script) (start_of circuit) (lines_in script) new tt tt asked told halt → TellsSize new halt
halted_size script circuit new asked told End halts = tt
halted_size script circuit new asked told (Refused number code) halts = tt
halted_size script circuit new asked told (TooLarge number fault) halts = halts.first

-- if a printer was told of a refusal, its line was written
pub printed_refusal : (page after : Page) (stopped : RefusedLine) (result : Result end.End Stop) → TellsRefusal print PrintsPart page after stopped result →
    IsTold (IsRefusalFor (Script stopped.line) stopped.cause ScriptRefused) page.written after.written result
printed_refusal page after stopped (Ok ending) (is, heard) = record {
  answer = plain_answer ScriptRefused (cause_line (Script stopped.line) stopped.cause);
  right = refl;
  ended = sym (ap status_of is);
  grew = ap (λ (now : Page). now.written) heard ∙ written-all page (of_column 0 (refusal_line stopped ∷ []))
      ∙ ap (append_known page.written) (refusal-printed page.numbered 0 (Script stopped.line) stopped.cause.code stopped.cause.name stopped.cause.count);
}
printed_refusal page after stopped (Err stop) heard = inr (record {
  answer = plain_answer ScriptRefused (cause_line (Script stopped.line) stopped.cause);
  right = refl;
  part = subst (WritesPart page.written after.written)
      (refusal-printed page.numbered 0 (Script stopped.line) stopped.cause.code stopped.cause.name stopped.cause.count)
      (written-front page after (of_column 0 (refusal_line stopped ∷ [])) heard);
})
