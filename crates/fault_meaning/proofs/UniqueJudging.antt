-- A list of faults has one answer: under each fault the script runs in one way, shows one trace, and has one verdict beside the good one.
use Rattle.std.proofs.Common.{◌≡◌, ℕ, List, [], ◌∷◌, ◌++◌, Option, None, Some, Result, Ok, Err, inl, inr, refl, sym, ap, subst, ◌∙◌}
use Rattle.std.specs.Prelude.{◌⊎◌}
use Rattle.ternary.specs.declared.tern.Tern.{Tern}
use Rattle.line_words.specs.Files.{cut_line, lines_in}
use Rattle.netlist.specs.Circuits.{CircuitData}
use Rattle.group_text.specs.Texts.{GroupTextData}
use Rattle.script_lang.specs.declared.command.Command.{Command}
use Rattle.session_meaning.specs.Sessions.{SessionData}
use Rattle.session_meaning.proofs.UniqueEffects.{effect_unique}
use Rattle.script_meaning.specs.Runs.{RefusedLine, Outcome, Runs, refusal_text}
use Rattle.script_meaning.proofs.UniqueRuns.{runs_unique}
use Rattle.run_ends.specs.declared.status.Status.TheVariants as status
use Rattle.run_ends.specs.Answers.{Answer}
use Rattle.fault_sim.specs.declared.fault.Fault.{Fault}
use Rattle.fault_sim.specs.declared.verdicts.Verdict.{Verdict}
use Rattle.fault_sim.specs.Masks.{masked_reading}
use Rattle.fault_sim.specs.Traces.{Trace, IsVerdict}
use Rattle.fault_sim.proofs.UniqueVerdicts.{verdict_unique}
use Rattle.fault_meaning.specs.declared.listed.ListedFault.{ListedFault}
use Rattle.fault_meaning.specs.declared.listed.ListRefusal.{ListRefusal}
use Rattle.fault_meaning.specs.Lists.{faults_in}
use Rattle.fault_meaning.specs.Traces.{start_with, commands_under, stuck_under, AreDone, RunsUnder, Shows, IsTrace}
use Rattle.fault_meaning.specs.Judging.{LineVerdict, verdict_lines, counts_line, AreJudged, TellsVerdicts, TellsRefused, IsJudgement, AnswersList}
use Rattle.fault_meaning.specs.Judging.AreJudged.{no_fault, one_more}
use Rattle.fault_meaning.specs.Laws.{JudgementsAreUnique}

-- ---- runs

-- commands are done in one way
done_unique : (commands : List Command) (old new other : SessionData) → AreDone old commands new → AreDone old commands other → new ≡ other
done_unique [] old new other one two = one ∙ sym two
done_unique (command ∷ commands) old new other (mid, does, rest) (then, did, others) =
    let same : mid ≡ then = (effect_unique old mid then command [] [] does.effect did.effect).0 in
    done_unique commands mid new other rest (subst (λ (session : SessionData). AreDone session commands other) (sym same) others)

-- so a script runs in one way under a fault, or without one
under_unique : (circuit : CircuitData) (script : List ℕ) (kept : List GroupTextData) (fault : Option Fault) (outcome other : Outcome) →
    RunsUnder circuit script kept fault outcome → RunsUnder circuit script kept fault other → outcome ≡ other
under_unique circuit script kept fault outcome other one two =
    let start : one.start ≡ two.start =
    done_unique (commands_under circuit fault) (start_with circuit kept) one.start two.start one.begins two.begins in
    runs_unique (masked_reading (stuck_under fault)) (cut_line script) one.start (lines_in script) outcome other one.runs
    (subst (λ (session : SessionData). Runs (masked_reading (stuck_under fault)) (cut_line script) session (lines_in script) other) (sym start) two.runs)

-- ---- traces

-- an outcome shows one trace
shown_unique : (outcome : Outcome) (trace other : Trace) → Shows outcome trace → Shows outcome other → trace ≡ other
shown_unique outcome trace other one two =
    let made : List (List Tern) → List (List ℕ) → Option ℕ → Trace = λ rows names refused. record { rows = rows; names = names; refused = refused } in
    ap (λ (rows : List (List Tern)). made rows trace.names trace.refused) (one.rows ∙ sym two.rows)
    ∙ ap (λ (names : List (List ℕ)). made other.rows names trace.refused) (one.names ∙ sym two.names)
    ∙ ap (made other.rows other.names) (one.refused ∙ sym two.refused)

-- a run has one trace, and the same texts are analysed for it and kept after it
trace_unique : (circuit : CircuitData) (script : List ℕ) (kept : List GroupTextData) (fault : Option Fault) (trace other : Trace)
    (texts others after later : List GroupTextData) → IsTrace circuit script kept fault trace texts after →
    IsTrace circuit script kept fault other others later → (trace ≡ other) × (texts ≡ others) × (after ≡ later)
trace_unique circuit script kept fault trace other texts others after later one two =
    let same : one.outcome ≡ two.outcome = under_unique circuit script kept fault one.outcome two.outcome one.runs two.runs in (
      shown_unique one.outcome trace other one.shows (subst (λ (outcome : Outcome). Shows outcome other) (sym same) two.shows),
      one.analysed ∙ ap (λ (outcome : Outcome). outcome.texts) same ∙ sym two.analysed,
      one.left ∙ ap (λ (outcome : Outcome). outcome.end.kept) same ∙ sym two.left,
    )

-- ---- verdicts

-- a fault has one verdict
abbrev judged_as : ListedFault → Verdict → LineVerdict
judged_as listed verdict = record { line = listed.line; verdict = verdict }

-- so faults are judged in one way
judged_unique : {circuit : CircuitData} {script : List ℕ} {good : Trace} {kept : List GroupTextData} {faults : List ListedFault} {judged more : List LineVerdict} {texts others : List GroupTextData}
    → AreJudged circuit script good kept faults judged texts → AreJudged circuit script good kept faults more others → (judged ≡ more) × (texts ≡ others)
judged_unique (no_fault kept) (no_fault _) = (refl, refl)
judged_unique {circuit} {script} {good} (one_more kept after listed faults bad verdict judged texts more is rules rest)
    (one_more _ later _ _ ill other others further beyond also tells left) =
    let trace = trace_unique circuit script kept (Some listed.fault) bad ill texts further after later is also in
    let same : verdict ≡ other =
    verdict_unique good bad verdict other rules (subst (λ (shown : Trace). IsVerdict good shown other) (sym trace.0) tells) in
    let all = judged_unique rest (subst (λ (now : List GroupTextData). AreJudged circuit script good now faults others beyond) (sym trace.2) left) in (
      ap (λ (it : Verdict). judged_as listed it ∷ judged) same ∙ ap (λ (list : List LineVerdict). judged_as listed other ∷ list) all.0,
      ap (λ (one : List GroupTextData). one ++ more) trace.1 ∙ ap (λ (list : List GroupTextData). further ++ list) all.1,
    )

-- ---- answers

-- the verdicts on the faults tell one answer
verdicts_unique : (circuit : CircuitData) (script : List ℕ) (faults : List ListedFault) (outcome : Outcome) (answer other : Answer) →
    TellsVerdicts circuit script faults outcome answer → TellsVerdicts circuit script faults outcome other → answer ≡ other
verdicts_unique circuit script faults outcome answer other one two =
    let good : one.good ≡ two.good = shown_unique outcome one.good two.good one.shows two.shows in
    let all = judged_unique one.are
    (subst (λ (trace : Trace). AreJudged circuit script trace outcome.end.kept faults two.judged two.texts) (sym good) two.are) in
    let told : Trace → List LineVerdict → List GroupTextData → Answer =
    λ trace judged texts. record { status = status.Done; text = verdict_lines trace judged ++ counts_line judged; texts = outcome.texts ++ texts } in
    one.told ∙ ap (λ (trace : Trace). told trace one.judged one.texts) good
    ∙ ap (λ (judged : List LineVerdict). told two.good judged one.texts) all.0 ∙ ap (told two.good two.judged) all.1 ∙ sym two.told

-- and so does the refusal of a line
refused_unique : (outcome : Outcome) (answer other : Answer) → TellsRefused outcome answer → TellsRefused outcome other → answer ≡ other
refused_unique outcome answer other one two =
    let same : one.stopped ≡ two.stopped = cc (one.there, two.there) in
    let told : RefusedLine → Answer =
    λ stopped. record { status = status.ScriptRefused; text = refusal_text (Some stopped); texts = outcome.texts } in
    one.told ∙ ap told same ∙ sym two.told

-- and no outcome tells both
not_both : (circuit : CircuitData) (script : List ℕ) (faults : List ListedFault) (outcome : Outcome) (answer other : Answer) →
    TellsVerdicts circuit script faults outcome answer → ¬ TellsRefused outcome other
not_both circuit script faults outcome answer other whole stopped = absurd (cc (whole.whole, stopped.there))

tells_unique : (circuit : CircuitData) (script : List ℕ) (faults : List ListedFault) (outcome : Outcome) (answer other : Answer) →
    TellsVerdicts circuit script faults outcome answer ⊎ TellsRefused outcome answer →
    TellsVerdicts circuit script faults outcome other ⊎ TellsRefused outcome other → answer ≡ other
tells_unique circuit script faults outcome answer other (inl one) (inl two) = verdicts_unique circuit script faults outcome answer other one two
tells_unique circuit script faults outcome answer other (inl one) (inr two) = absurd (not_both circuit script faults outcome answer other one two)
tells_unique circuit script faults outcome answer other (inr one) (inl two) = absurd (not_both circuit script faults outcome other answer two one)
tells_unique circuit script faults outcome answer other (inr one) (inr two) = refused_unique outcome answer other one two

-- the good run is one, so the faults have one answer
judgement_unique : (circuit : CircuitData) (script : List ℕ) (faults : List ListedFault) (answer other : Answer) →
    IsJudgement circuit script faults answer → IsJudgement circuit script faults other → answer ≡ other
judgement_unique circuit script faults answer other one two =
    let same : one.outcome ≡ two.outcome = under_unique circuit script [] None one.outcome two.outcome one.runs two.runs in
    tells_unique circuit script faults one.outcome answer other one.tells
    (subst (λ (outcome : Outcome). TellsVerdicts circuit script faults outcome other ⊎ TellsRefused outcome other) (sym same) two.tells)

-- and so has the list
list_unique : (circuit : CircuitData) (script : List ℕ) (read : Result (List ListedFault) ListRefusal) (answer other : Answer) →
    AnswersList circuit script read answer → AnswersList circuit script read other → answer ≡ other
list_unique circuit script (Ok faults) answer other one two = judgement_unique circuit script faults answer other one two
list_unique circuit script (Err refusal) answer other one two = one ∙ sym two

pub judged_faults_unique : JudgementsAreUnique
judged_faults_unique script list circuit answer other one two = list_unique circuit script (faults_in circuit list) answer other one two
