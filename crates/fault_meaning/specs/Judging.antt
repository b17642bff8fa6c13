-- The answer to a list of faults: a verdict for each fault, and their counts; or the first refused line, of the list or of the good run.
use Rattle.std.specs.Prelude.{◌≡◌, ◌⊎◌, ℕ, Bool, true, false, List, [], ◌∷◌, ◌++◌, length, count_by, slice_get, unwrap_or, Some, None, Result, Ok, Err}
use Rattle.netlist.specs.Circuits.{CircuitData}
use Rattle.group_text.specs.Texts.{GroupTextData}
use Rattle.printed_lines.specs.declared.faults.FaultPlace.TheVariants as place
use Rattle.printed_lines.specs.Verdicts.{detected_line_of, possible_line_of, refused_line_of, undetected_line_of, faults_line_of}
use Rattle.fault_sim.specs.declared.verdicts.Verdict.{Verdict}
use Rattle.fault_sim.specs.declared.verdicts.Verdict.TheVariants.{Detected, Refused, Possible, Undetected}
use Rattle.fault_sim.specs.Traces.{Trace, IsVerdict}
use Rattle.run_ends.specs.declared.status.Status.TheVariants as status
use Rattle.run_ends.specs.Answers.{Answer, IsRefusal}
use Rattle.script_meaning.specs.Runs.{RefusedLine, Outcome, refusal_text}
use Rattle.fault_meaning.specs.declared.listed.ListedFault.{ListedFault}
use Rattle.fault_meaning.specs.declared.listed.ListRefusal.{ListRefusal}
use Rattle.fault_meaning.specs.Lists.{faults_in}
use Rattle.fault_meaning.specs.Traces.{RunsUnder, Shows, IsTrace}

-- the verdict on the fault of a line of the list
pub record LineVerdict : Type 0 where
  pub line : ℕ
  pub verdict : Verdict

-- the name of an entry of the watch list
abbrev pub named_entry : Trace → ℕ → List ℕ
named_entry good entry = unwrap_or (slice_get good.names entry) []

-- the line of a verdict; a node is called as at the end of the good run
abbrev pub verdict_line : Trace → ℕ → Verdict → List ℕ
verdict_line good line (Detected row entry) = detected_line_of line row (named_entry good entry)
verdict_line good line (Refused at) = refused_line_of line at
verdict_line good line (Possible row entry) = possible_line_of line row (named_entry good entry)
verdict_line good line Undetected = undetected_line_of line

-- the lines of verdicts, in order
abbrev pub verdict_lines : Trace → List LineVerdict → List ℕ
verdict_lines good [] = []
verdict_lines good (judged ∷ others) = verdict_line good judged.line judged.verdict ++ verdict_lines good others

-- what stands for the kind of a verdict: detected, refused, possible or undetected
abbrev pub by_kind : Bool → Bool → Bool → Bool → Verdict → Bool
by_kind detected refused possible undetected (Detected row entry) = detected
by_kind detected refused possible undetected (Refused at) = refused
by_kind detected refused possible undetected (Possible row entry) = possible
by_kind detected refused possible undetected Undetected = undetected

-- the verdict is that the fault shows for certain
abbrev pub is_detected : Verdict → Bool
is_detected = by_kind true false false false

-- that a line of the script is refused under it
abbrev pub is_refused : Verdict → Bool
is_refused = by_kind false true false false

-- that it may show
abbrev pub is_possible : Verdict → Bool
is_possible = by_kind false false true false

-- that it shows nowhere
abbrev pub is_undetected : Verdict → Bool
is_undetected = by_kind false false false true

-- how many of these verdicts pass a test
abbrev pub how_many : (Verdict → Bool) → List LineVerdict → ℕ
how_many test judged = count_by (λ one. test one.verdict) judged

-- the last line: how many faults there are, and how many have each verdict
abbrev pub counts_line : List LineVerdict → List ℕ
counts_line judged =
    faults_line_of (length judged) (how_many is_detected judged) (how_many is_possible judged) (how_many is_undetected judged)
    (how_many is_refused judged)

-- faults are judged in order, each by a run of the script under it beside the good trace; what is kept goes on from run to run, and the
-- texts that are analysed are those of all runs
pub data AreJudged (circuit : CircuitData) (script : List ℕ) (good : Trace) : List GroupTextData → List ListedFault → List LineVerdict → List GroupTextData → Type 0 where
  no_fault : (kept : List GroupTextData) → AreJudged circuit script good kept [] [] []
  one_more : (kept after : List GroupTextData) (listed : ListedFault) (faults : List ListedFault) (bad : Trace) (verdict : Verdict)
      (judged : List LineVerdict) (texts more : List GroupTextData) →
      IsTrace circuit script kept (Some listed.fault) bad texts after → IsVerdict good bad verdict →
      AreJudged circuit script good after faults judged more →
      AreJudged circuit script good kept (listed ∷ faults) (record { line = listed.line; verdict = verdict } ∷ judged) (texts ++ more)

-- the good run is obeyed to its end: the answer is the line of each verdict and then that of the counts; expectations count for nothing
pub record TellsVerdicts (circuit : CircuitData) (script : List ℕ) (faults : List ListedFault) (outcome : Outcome) (answer : Answer) : Type 0 where
  pub whole : outcome.refused ≡ None
  pub good : Trace
  pub shows : Shows outcome good
  pub judged : List LineVerdict
  pub texts : List GroupTextData
  pub are : AreJudged circuit script good outcome.end.kept faults judged texts
  pub told : answer ≡ record {
    status = status.Done;
    text = verdict_lines good judged ++ counts_line judged;
    texts = outcome.texts ++ texts;
  }

-- a line of the script is refused in the good run: its line is the whole answer
pub record TellsRefused (outcome : Outcome) (answer : Answer) : Type 0 where
  pub stopped : RefusedLine
  pub there : outcome.refused ≡ Some stopped
  pub told : answer ≡ record { status = status.ScriptRefused; text = refusal_text (Some stopped); texts = outcome.texts }

-- the answer to the faults of a list, by the good run: the same run without a fault, if nothing is kept at first
pub record IsJudgement (circuit : CircuitData) (script : List ℕ) (faults : List ListedFault) (answer : Answer) : Type 0 where
  pub outcome : Outcome
  pub runs : RunsUnder circuit script [] None outcome
  pub tells : TellsVerdicts circuit script faults outcome answer ⊎ TellsRefused outcome answer

-- the answer to a list as it was read: its first refused line alone, else that to its faults
abbrev pub AnswersList : CircuitData → List ℕ → Result (List ListedFault) ListRefusal → Answer → Type 0
AnswersList circuit script (Ok faults) answer = IsJudgement circuit script faults answer
AnswersList circuit script (Err refusal) answer = IsRefusal (place.List refusal.line) refusal.code status.ScriptRefused answer

-- the answer to the faults that a list names in a circuit, over the runs of a script
abbrev pub AreJudgedFaults : List ℕ → List ℕ → CircuitData → Answer → Type 0
AreJudgedFaults script list circuit answer = AnswersList circuit script (faults_in circuit list) answer
