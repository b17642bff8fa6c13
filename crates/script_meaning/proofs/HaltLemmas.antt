-- What is told of a script whose lines were obeyed: their lines, and the line of the refusal that ended them, if one did.
use Rattle.std.proofs.Common.{◌≡◌, ◌≢◌, ℕ, ◌⊎◌, inl, inr, List, [], ◌∷◌, ◌++◌, Option, None, Some, Result, Ok, Err, refl, sym, ap, subst, ◌∙◌, append-nil}
use Rattle.netlist.specs.Circuits.{CircuitData}
use Rattle.group_text.specs.Texts.{GroupTextData}
use Rattle.told_lines.specs.Lines.{Line, Told, text_of}
use Rattle.told_lines.specs.Hearing.{hear_all, of_column}
use Rattle.told_lines.proofs.HearingLemmas.{hear_all-append, of_column-append, so_far-start, so_far-front}
use Rattle.told_lines.proofs.PrintingLemmas.{text_of-append}
use Rattle.session_meaning.specs.Sessions.{SessionData}
use Rattle.script_meaning.specs.declared.halt.Halt.{Halt}
use Rattle.script_meaning.specs.declared.halt.Halt.TheVariants.{End, Refused, TooLarge}
use Rattle.run_ends.specs.declared.stop.Stop.{Stop}
use Rattle.run_ends.specs.declared.stop.End as end
use Rattle.run_ends.specs.Causes.{plain_cause}
use Rattle.script_meaning.specs.Runs.{Reading, RefusedLine, Outcome, refusal_line, refusal_lines, refusal_text, lines_told, answer_told, status_told}
use Rattle.script_meaning.specs.Halts.{HasObeyed, HaltsAt, BreaksOff, IsCutShort, TellsRefusal, TellsCutShort}
use Rattle.run_ends.specs.Ends.{status_of}
use Rattle.script_meaning.specs.Ends.{TellsRun}

-- the text of the line of a refusal that ended a script is the refusal's
refusal_lines-text : (last : Option RefusedLine) → text_of (refusal_lines last) ≡ refusal_text last
refusal_lines-text None = refl
refusal_lines-text (Some stopped) = append-nil (refusal_text (Some stopped))

-- so the text of what a script tells is that of its answer
pub told-text : (outcome : Outcome) → text_of (lines_told outcome) ≡ (answer_told outcome).text
told-text outcome =
    text_of-append outcome.lines (refusal_lines outcome.refused)
    ∙ ap (λ (text : List ℕ). text_of outcome.lines ++ text) (refusal_lines-text outcome.refused)

module _ {H : Type 0} (hear : H → Told → H) (part : H → Told → H → Type 0) (reading : Reading) (cut : Option ℕ) (start : SessionData)
    (lines : List (ℕ × List ℕ)) (new : SessionData) (before mid : H) (asked told : List GroupTextData) where
  -- all lines were obeyed
  obeyed_told : (ending : end.End) → HasObeyed hear reading cut start lines new before mid asked told None → status_of ending ≡ status_told new None →
      TellsRun hear part reading cut start lines new before mid asked told (Ok ending)
  obeyed_told ending obeyed same = record {
    outcome = obeyed.outcome;
    runs = obeyed.runs;
    reached = obeyed.reached;
    ended = ap (status_told obeyed.outcome.end) obeyed.stopped ∙ ap (λ (session : SessionData). status_told session None) obeyed.reached ∙ sym same;
    heard = obeyed.heard ∙ ap (λ (all : List Line). hear_all hear before (of_column 0 all))
        (sym (ap (λ (last : Option RefusedLine). obeyed.outcome.lines ++ refusal_lines last) obeyed.stopped ∙ append-nil obeyed.outcome.lines));
    analysed = obeyed.analysed;
  }

  -- what the whole tells is what the lines tell, and then the refusal
  told_parts : (stopped : RefusedLine) (outcome : Outcome) → outcome.refused ≡ Some stopped →
      of_column 0 (lines_told outcome) ≡ of_column 0 outcome.lines ++ of_column 0 (refusal_line stopped ∷ [])
  told_parts stopped outcome is =
      ap (λ (last : Option RefusedLine). of_column 0 (outcome.lines ++ refusal_lines last)) is
      ∙ of_column-append 0 outcome.lines (refusal_line stopped ∷ [])

  -- a line was refused, and the line of its refusal was told
  told_refused : (stopped : RefusedLine) (last : H) (result : Result end.End Stop) →
      HasObeyed hear reading cut start lines new before mid asked told (Some stopped) → TellsRefusal hear part mid last stopped result →
      TellsRun hear part reading cut start lines new before last asked told result
  told_refused stopped last (Ok ending) obeyed (is, heard) = record {
    outcome = obeyed.outcome;
    runs = obeyed.runs;
    reached = obeyed.reached;
    ended = ap (status_told obeyed.outcome.end) obeyed.stopped ∙ sym (ap status_of is);
    heard = heard ∙ ap (λ h. hear_all hear h (of_column 0 (refusal_line stopped ∷ []))) obeyed.heard
        ∙ sym (hear_all-append hear before (of_column 0 obeyed.outcome.lines) (of_column 0 (refusal_line stopped ∷ [])))
        ∙ ap (hear_all hear before) (sym (told_parts stopped obeyed.outcome obeyed.stopped));
    analysed = obeyed.analysed;
  }
  told_refused stopped last (Err stop) obeyed heard =
      let refusal : List Told = of_column 0 (refusal_line stopped ∷ []) in
      inr (record {
        outcome = obeyed.outcome;
        runs = obeyed.runs;
        heard = so_far-front hear part before mid last (of_column 0 (lines_told obeyed.outcome)) refusal refusal [] (sym (append-nil refusal))
            (record {
              done = of_column 0 obeyed.outcome.lines;
              split = told_parts stopped obeyed.outcome obeyed.stopped;
              heard = obeyed.heard;
            }) heard;
      })

  -- lines that weren't all obeyed were cut short
  pub cut_short : (halt : Halt) → halt ≢ End → HaltsAt hear reading cut start lines new before mid asked told halt → IsCutShort new.circuit halt
  cut_short End other halts = absurd (other refl)
  cut_short (Refused number code) other halts = tt
  cut_short (TooLarge number size) other halts = (new.large, halts.first)

  -- and the line of that refusal was told
  told_cut_short : (last : H) (result : Result end.End Stop) (halt : Halt) → HaltsAt hear reading cut start lines new before mid asked told halt →
      TellsCutShort hear part new.circuit halt mid last result → TellsRun hear part reading cut start lines new before last asked told result
  told_cut_short last result End halts tells = absurd tells
  told_cut_short last result (Refused number code) halts tells =
      told_refused (record { line = number; cause = plain_cause code }) last result halts tells
  told_cut_short last result (TooLarge number size) halts (cause, named, tells) =
      told_refused (record { line = number; cause = cause }) last result (halts.halted size cause halts.first named) tells

  -- the lines broke off
  pub told_stop : (stop : Stop) → (mid ≡ before) ⊎ BreaksOff hear part reading cut start lines before mid →
      TellsRun hear part reading cut start lines new before mid asked told (Err stop)
  told_stop stop (inl same) = inl same
  told_stop stop (inr breaks) =
      let lines : List Line = breaks.outcome.lines in
      inr (record {
        outcome = breaks.outcome;
        runs = breaks.runs;
        heard = so_far-front hear part before before mid (of_column 0 (lines_told breaks.outcome)) (of_column 0 (lines_told breaks.outcome))
            (of_column 0 lines) (of_column 0 (refusal_lines breaks.outcome.refused)) (of_column-append 0 lines (refusal_lines breaks.outcome.refused))
            (so_far-start hear before (of_column 0 (lines_told breaks.outcome))) breaks.heard;
      })

  -- ---- the same, where the end and the circuit are known by other names

  pub told_end : (ending : end.End) (halt : Halt) → HaltsAt hear reading cut start lines new before mid asked told halt → halt ≡ End →
      status_of ending ≡ status_told new None → TellsRun hear part reading cut start lines new before mid asked told (Ok ending)
  told_end ending halt halts is status =
      obeyed_told ending (subst (HaltsAt hear reading cut start lines new before mid asked told) is halts) status

  pub told_cut : (last : H) (result : Result end.End Stop) (halt : Halt) (at : CircuitData) →
      HaltsAt hear reading cut start lines new before mid asked told halt → at ≡ new.circuit → TellsCutShort hear part at halt mid last result →
      TellsRun hear part reading cut start lines new before last asked told result
  told_cut last result halt at halts here tells =
      told_cut_short last result halt halts (subst (λ (circuit : CircuitData). TellsCutShort hear part circuit halt mid last result) here tells)
