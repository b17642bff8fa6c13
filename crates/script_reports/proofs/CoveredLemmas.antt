-- What was told of the notes at the end of a script, or of the refusal that ended it, is told of the answer to `cover`.
use Rattle.std.proofs.Common.{◌≡◌, ℕ, List, [], ◌∷◌, Option, None, Result, refl, sym, ap, subst, ◌∙◌}
use Rattle.settling.specs.Passing.{see_all}
use Rattle.settling.specs.Passes.{View, Passed, Stands, look_all, states_of}
use Rattle.settling.proofs.PassingLemmas.{see_all-append}
use Rattle.state_cover.specs.Cover.{had_after}
use Rattle.state_cover.specs.Laws.{TellStates}
use Rattle.state_cover.proofs.LawLemmas.{notes_tell}
use Rattle.state_cover.specs.declared.had.Had.{Had}
use Rattle.line_words.specs.Files.{lines_in, cut_line}
use Rattle.netlist.specs.Circuits.{CircuitData}
use Rattle.group_text.specs.Texts.{GroupTextData}
use Rattle.session_meaning.specs.Sessions.{SessionData, start_of}
use Rattle.run_ends.specs.declared.status.Status.{Status}
use Rattle.script_meaning.specs.declared.halt.Halt.{Halt}
use Rattle.script_meaning.specs.declared.halt.Halt.TheVariants.{End, Refused, TooLarge}
use Rattle.run_ends.specs.declared.stop.End as end
use Rattle.run_ends.specs.declared.stop.Stop.{Stop}
use Rattle.run_ends.specs.Causes.{plain_cause}
use Rattle.script_meaning.specs.Runs.{Outcome, RefusedLine, Runs, plain_reading}
use Rattle.script_meaning.specs.Shown.{SeesAll}
use Rattle.run_ends.specs.Answers.{Answer}
use Rattle.script_meaning.specs.Halts.{HaltsAt}
use Rattle.run_ends.specs.Ends.{IsTold, IsToldBy}
use Rattle.run_ends.proofs.EndLemmas.{told_as}
use Rattle.script_reports.specs.Covered.{IsCoveredAt, IsCovered}
use Rattle.script_reports.specs.Covering.{IsHaltCovered, TellsNotes}
use Rattle.script_reports.specs.Explaining.{hear_nothing}
use Rattle.script_reports.proofs.HaltedLemmas.{told_at, told_line, told_size}

-- ---- the notes

-- an onlooker who notes what each node has saw all that the lines of a script show
abbrev pub NotesAll : List ℕ → SessionData → SessionData → List Had → List Had → Type 0
NotesAll script start new first hads =
    SeesAll had_after had_after (λ notes steps. notes) plain_reading (cut_line script) start (lines_in script) new first hads

-- of views the states are noted
look_all-noted : (first : List Had) (views : List View) →
    look_all had_after had_after (λ notes steps. notes) first views ≡ see_all had_after first (states_of views)
look_all-noted first [] = refl
look_all-noted first (Passed pass ∷ views) =
    look_all-noted (see_all had_after (had_after first pass.before) pass.states) views
    ∙ sym (see_all-append had_after (had_after first pass.before) pass.states (states_of views))
look_all-noted first (Stands state ∷ views) = look_all-noted (had_after first state) views

-- ---- the answer

-- so far as a status and a text of the cover at the end of a script go
abbrev At : List ℕ → CircuitData → SessionData → Option RefusedLine → Status → List ℕ → Type 0
At script circuit end stopped status text = IsCoveredAt (cut_line script) (start_of circuit) (lines_in script) end stopped status text

-- they are a right answer
right_cover : (script : List ℕ) (circuit : CircuitData) (outcome : Outcome) → Runs plain_reading (cut_line script) (start_of circuit) (lines_in script) outcome →
    (answer : Answer) → At script circuit outcome.end outcome.refused answer.status answer.text →
    IsCovered script circuit (record { status = answer.status; text = answer.text; texts = outcome.texts })
right_cover script circuit outcome runs answer covered = record { outcome = outcome; runs = runs; covered = covered; texts = refl }

-- of the notes of an onlooker who saw the state at the start and all that the lines show
pub told_cover : (script : List ℕ) (circuit : CircuitData) (new : SessionData) (old last : Option (List ℕ)) (asked told : List GroupTextData)
    (first hads : List Had) (halt : Halt) (result : Result end.End Stop) → first ≡ had_after [] (start_of circuit).state →
    (halt ≡ End → NotesAll script (start_of circuit) new first hads) →
    HaltsAt hear_nothing plain_reading (cut_line script) (start_of circuit) (lines_in script) new tt tt asked told halt →
    IsTold (IsHaltCovered hads new halt) old last result → IsToldBy (IsCovered script circuit) old last asked told result
told_cover script circuit new old last asked told first hads End result from sees halts written =
    let saw = sees refl in
    let noted : hads ≡ see_all had_after [] ((start_of circuit).state ∷ states_of saw.shown) =
    saw.seen ∙ look_all-noted first saw.shown ∙ ap (λ (notes : List Had). see_all had_after notes (states_of saw.shown)) from in
    told_at script circuit new old last asked told (At script circuit) (IsCovered script circuit) (right_cover script circuit)
    (λ stopped. (refl, refl)) None result halts
    (told_as (TellsNotes hads new) (λ (answer : Answer). At script circuit new None answer.status answer.text) old last result
    (λ answer is. (
      ap (λ (one : Answer). one.status) is.told,
      record {
        shown = saw.shown;
        shows = saw.shows;
        hads = hads;
        count = is.count;
        tells = subst (TellStates ((start_of circuit).state ∷ states_of saw.shown)) (sym noted) (notes_tell ((start_of circuit).state ∷ states_of saw.shown));
        told = ap (λ (one : Answer). one.text) is.told;
      },
    )) written)
told_cover script circuit new old last asked told first hads (Refused number code) result from sees halts written =
    told_line script circuit new old last asked told (At script circuit) (IsCovered script circuit) (right_cover script circuit)
    (λ stopped. (refl, refl)) number (plain_cause code) result halts written
told_cover script circuit new old last asked told first hads (TooLarge number fault) result from sees halts written =
    told_size script circuit new old last asked told (At script circuit) (IsCovered script circuit) (right_cover script circuit)
    (λ stopped. (refl, refl)) number fault result halts written
