-- What is answered of a script for columns whose lines were obeyed, over a printer that numbers columns: their rows, and the line of the refusal that
-- ended them, if one did.
use Rattle.std.proofs.Common.{◌≡◌, ◌≢◌, ℕ, ◌⊎◌, inl, inr, Bool, true, List, [], ◌∷◌, ◌++◌, Option, None, Some, Result, Ok, Err, refl, sym, ap, subst, ◌∙◌, append-nil}
use Rattle.std.specs.Io.KnownBytes.{append_known}
use Rattle.ports.specs.Sending.{WritesPart}
use Rattle.ports.proofs.SendingLemmas.{append_known-append, sends_part, part_longer}
use Rattle.group_text.specs.Texts.{GroupTextData}
use Rattle.printed_lines.specs.declared.faults.FaultPlace.TheVariants.{Script}
use Rattle.told_lines.specs.Lines.{Told}
use Rattle.told_lines.specs.Hearing.{hear_all, HearsFront, of_column}
use Rattle.told_lines.specs.Printing.{Page, print, PrintsPart, text_printed}
use Rattle.told_lines.proofs.PrintingLemmas.{written-all, written-front, refusal-printed}
use Rattle.session_meaning.specs.Sessions.{SessionData}
use Rattle.script_meaning.specs.declared.halt.Halt.{Halt}
use Rattle.script_meaning.specs.declared.halt.Halt.TheVariants.{End, Refused, TooLarge}
use Rattle.run_ends.specs.declared.stop.Stop.{Stop}
use Rattle.run_ends.specs.declared.stop.End as end
use Rattle.run_ends.specs.declared.stop.End.TheVariants as ended
use Rattle.run_ends.specs.Causes.{plain_cause}
use Rattle.script_meaning.specs.Runs.{RefusedLine, refusal_line, refusal_text}
use Rattle.run_ends.specs.Answers.{Answer, IsStopped}
use Rattle.script_meaning.specs.Halts.{IsCutShort, TellsRefusal, TellsCutShort}
use Rattle.run_ends.specs.Ends.{IsToldBy, status_of}
use Rattle.column_run.specs.ColumnAnswers.{IsColumnAnswer, RunsInAll, status_ended}
use Rattle.column_run.specs.Turns.{HaveObeyed, HaltsAt, BreakOff}

-- the answer of columns that ran
abbrev answer_of : List Told → List GroupTextData → Option RefusedLine → Answer
answer_of rows texts last = record { status = status_ended last; text = text_printed true rows ++ refusal_text last; texts = texts }

-- it is right
right : (columns : ℕ) (cut : Option ℕ) (start : ℕ → SessionData) (lines : List (ℕ × List ℕ)) (rows : List Told) (texts : List GroupTextData)
    (last : Option RefusedLine) → RunsInAll columns cut start lines rows texts last →
    IsColumnAnswer columns cut start lines (answer_of rows texts last)
right columns cut start lines rows texts last runs = record { rows = rows; refused = last; runs = runs; told = refl }

-- rows that a printer heard are written, each line after its column's number
rows_written : (page after : Page) (rows : List Told) → page.numbered ≡ true → after ≡ hear_all print page rows →
    after.written ≡ append_known page.written (text_printed true rows)
rows_written page after rows numbered heard =
    ap (λ (now : Page). now.written) heard ∙ written-all page rows ∙ ap (λ (b : Bool). append_known page.written (text_printed b rows)) numbered

-- and of those of which a front was heard a part is
front_written : (page after : Page) (rows : List Told) → page.numbered ≡ true → HearsFront print PrintsPart page after rows →
    WritesPart page.written after.written (text_printed true rows)
front_written page after rows numbered heard =
    subst (λ (b : Bool). WritesPart page.written after.written (text_printed b rows)) numbered (written-front page after rows heard)

module _ (columns : ℕ) (cut : Option ℕ) (start : ℕ → SessionData) (lines : List (ℕ × List ℕ)) (page mid : Page) (numbered : page.numbered ≡ true)
    (asked known : List GroupTextData) where
  -- all lines were obeyed
  pub told_end : HaveObeyed print columns cut start lines page mid asked known None →
      IsToldBy (IsColumnAnswer columns cut start lines) page.written mid.written asked known (Ok ended.Done)
  told_end obeyed = record {
    answer = answer_of obeyed.told obeyed.texts None;
    right = (right columns cut start lines obeyed.told obeyed.texts None obeyed.runs, obeyed.analysed);
    ended = refl;
    grew = rows_written page mid obeyed.told numbered obeyed.heard ∙ ap (append_known page.written) (sym (append-nil (text_printed true obeyed.told)));
  }

  -- lines that weren't all obeyed were cut short
  pub cut_short : (new : SessionData) (halt : Halt) → halt ≢ End → HaltsAt print columns cut start lines new page mid asked known halt →
      IsCutShort new.circuit halt
  cut_short new End other halts = absurd (other refl)
  cut_short new (Refused number code) other halts = tt
  cut_short new (TooLarge number size) other halts = (new.large, halts.first)

  -- the lines broke off
  pub told_stop : (mid ≡ page) ⊎ BreakOff print PrintsPart columns cut start lines page mid →
      IsStopped (IsColumnAnswer columns cut start lines) page.written mid.written
  told_stop (inl same) = inl (ap (λ (now : Page). now.written) same)
  told_stop (inr breaks) = inr (record {
    answer = answer_of breaks.told breaks.texts breaks.last;
    right = right columns cut start lines breaks.told breaks.texts breaks.last breaks.runs;
    part = part_longer page.written mid.written (text_printed true breaks.told) (refusal_text breaks.last)
        (front_written page mid breaks.told numbered breaks.heard);
  })

  -- a line was refused, and the line of its refusal was told
  told_refused : (after : Page) (stopped : RefusedLine) (result : Result end.End Stop) → HaveObeyed print columns cut start lines page mid asked known (Some stopped) →
      TellsRefusal print PrintsPart mid after stopped result → IsToldBy (IsColumnAnswer columns cut start lines) page.written after.written asked known result
  told_refused after stopped (Ok ending) obeyed (is, heard) =
      let line = refusal_text (Some stopped) in
      let rows = text_printed true obeyed.told in
      record {
        answer = answer_of obeyed.told obeyed.texts (Some stopped);
        right = (right columns cut start lines obeyed.told obeyed.texts (Some stopped) obeyed.runs, obeyed.analysed);
        ended = sym (ap status_of is);
        grew = ap (λ (now : Page). now.written) heard ∙ written-all mid (of_column 0 (refusal_line stopped ∷ []))
            ∙ ap (append_known mid.written) (refusal-printed mid.numbered 0 (Script stopped.line) stopped.cause.code stopped.cause.name stopped.cause.count)
            ∙ ap (λ written. append_known written line) (rows_written page mid obeyed.told numbered obeyed.heard) ∙ append_known-append page.written rows line;
      }
  told_refused after stopped (Err stop) obeyed heard =
      let line = refusal_text (Some stopped) in
      let rows = text_printed true obeyed.told in
      inr (record {
        answer = answer_of obeyed.told obeyed.texts (Some stopped);
        right = right columns cut start lines obeyed.told obeyed.texts (Some stopped) obeyed.runs;
        part = sends_part page.written mid.written after.written (rows ++ line) line []
            (record {
              sent = rows;
              whole = ap (λ (text : List ℕ). rows ++ text) (sym (append-nil line));
              grew = rows_written page mid obeyed.told numbered obeyed.heard;
            })
            (subst (WritesPart mid.written after.written)
            (refusal-printed mid.numbered 0 (Script stopped.line) stopped.cause.code stopped.cause.name stopped.cause.count)
            (written-front mid after (of_column 0 (refusal_line stopped ∷ [])) heard));
      })

  -- so it is where lines were cut short
  pub told_cut : (new : SessionData) (after : Page) (halt : Halt) (result : Result end.End Stop) →
      HaltsAt print columns cut start lines new page mid asked known halt → TellsCutShort print PrintsPart new.circuit halt mid after result →
      IsToldBy (IsColumnAnswer columns cut start lines) page.written after.written asked known result
  told_cut new after End result halts tells = absurd tells
  told_cut new after (Refused number code) result halts tells = told_refused after (record { line = number; cause = plain_cause code }) result halts tells
  told_cut new after (TooLarge number size) result halts (cause, named, tells) =
      told_refused after (record { line = number; cause = cause }) result (halts.halted size cause halts.first named) tells
