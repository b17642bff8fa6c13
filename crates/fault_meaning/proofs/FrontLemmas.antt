-- What a script and a list of faults come to is what their fronts come to, which are all that is read of them.
use Rattle.std.proofs.Common.{◌≡◌, ◌⊎◌, inl, inr, ℕ, List, [], Option, Some, None, Result, Ok, Err, refl, sym, ap, subst, ◌∙◌}
use Rattle.line_words.specs.Files.{front_of, lines_in, cut_line}
use Rattle.line_words.proofs.FileLemmas.{cut_line-front_of, lines_in-front_of}
use Rattle.netlist.specs.Circuits.{CircuitData}
use Rattle.group_text.specs.Texts.{GroupTextData}
use Rattle.fault_sim.specs.declared.fault.Fault.{Fault}
use Rattle.fault_sim.specs.Traces.{Trace}
use Rattle.fault_sim.specs.Masks.{masked_reading}
use Rattle.run_ends.specs.Answers.{Answer}
use Rattle.script_meaning.specs.Runs.{Outcome, Runs}
use Rattle.fault_meaning.specs.declared.listed.ListedFault.{ListedFault}
use Rattle.fault_meaning.specs.declared.listed.ListRefusal.{ListRefusal}
use Rattle.fault_meaning.specs.Lists.{faults_of, faults_in}
use Rattle.fault_meaning.specs.Traces.{RunsUnder, IsTrace, stuck_under}
use Rattle.fault_meaning.specs.Judging.{LineVerdict, AreJudged, no_fault, one_more, TellsVerdicts, TellsRefused, IsJudgement, AnswersList, AreJudgedFaults}

-- a run of the front is a run of the script
runs-front : (c : CircuitData) (script : List ℕ) (kept : List GroupTextData) (fault : Option Fault) (outcome : Outcome) →
    RunsUnder c (front_of script) kept fault outcome → RunsUnder c script kept fault outcome
runs-front c script kept fault outcome runs = record {
  start = runs.start;
  begins = runs.begins;
  runs = subst (λ cut. Runs (masked_reading (stuck_under fault)) cut runs.start (lines_in script) outcome) (cut_line-front_of script)
      (subst (λ lines. Runs (masked_reading (stuck_under fault)) (cut_line (front_of script)) runs.start lines outcome) (lines_in-front_of script)
      runs.runs);
}

-- the faults that are judged by runs of the front are judged by runs of the script
judged-front : (c : CircuitData) (script : List ℕ) (good : Trace) (kept : List GroupTextData) (faults : List ListedFault) (judged : List LineVerdict)
    (texts : List GroupTextData) → AreJudged c (front_of script) good kept faults judged texts → AreJudged c script good kept faults judged texts
judged-front c script good _ _ _ _ (no_fault kept) = no_fault kept
judged-front c script good _ _ _ _ (one_more kept after listed faults bad verdict judged texts more is judges rest) =
    one_more kept after listed faults bad verdict judged texts more
    (record {
      outcome = is.outcome;
      runs = runs-front c script kept (Some listed.fault) is.outcome is.runs;
      shows = is.shows;
      analysed = is.analysed;
      left = is.left;
    })
    judges (judged-front c script good after faults judged more rest)

-- so is what is told of them
tells-front : (c : CircuitData) (script : List ℕ) (faults : List ListedFault) (outcome : Outcome) (answer : Answer) →
    TellsVerdicts c (front_of script) faults outcome answer ⊎ TellsRefused outcome answer →
    TellsVerdicts c script faults outcome answer ⊎ TellsRefused outcome answer
tells-front c script faults outcome answer (inl tells) =
    inl (record {
      whole = tells.whole;
      good = tells.good;
      shows = tells.shows;
      judged = tells.judged;
      texts = tells.texts;
      are = judged-front c script tells.good outcome.end.kept faults tells.judged tells.texts tells.are;
      told = tells.told;
    })
tells-front c script faults outcome answer (inr refused) = inr refused

answers-front : (c : CircuitData) (script : List ℕ) (read : Result (List ListedFault) ListRefusal) (answer : Answer) →
    AnswersList c (front_of script) read answer → AnswersList c script read answer
answers-front c script (Ok faults) answer judges = record {
  outcome = judges.outcome;
  runs = runs-front c script [] None judges.outcome judges.runs;
  tells = tells-front c script faults judges.outcome answer judges.tells;
}
answers-front c script (Err refusal) answer refused = refused

-- the faults of the front are those of the list
faults_in-front_of : (c : CircuitData) (list : List ℕ) → faults_in c (front_of list) ≡ faults_in c list
faults_in-front_of c list =
    ap (λ cut. faults_of c cut (lines_in (front_of list))) (cut_line-front_of list)
    ∙ ap (faults_of c (cut_line list)) (lines_in-front_of list)

-- an answer by the fronts is one by the whole texts
pub are_judged-front : (c : CircuitData) (script list : List ℕ) (answer : Answer) → AreJudgedFaults (front_of script) (front_of list) c answer →
    AreJudgedFaults script list c answer
are_judged-front c script list answer right =
    subst (λ read. AnswersList c script read answer) (faults_in-front_of c list)
    (answers-front c script (faults_in c (front_of list)) answer right)
