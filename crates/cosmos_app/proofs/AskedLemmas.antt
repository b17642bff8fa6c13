-- What was told of the case of a question or a request is told of the question and of the request; what needs no file starts and reads none.
use Rattle.std.proofs.Common.{◌≡◌, ℕ, List, [], Option, IfSome, Result, IfOk, refl, sym, subst}
use Rattle.ports.specs.Taken.{Taken}
use Rattle.netlist.specs.Circuits.{CircuitData}
use Rattle.group_text.specs.Texts.{GroupTextData}
use Rattle.run_ends.specs.declared.stop.Stop.{Stop}
use Rattle.run_ends.specs.declared.stop.End as end
use Rattle.run_ends.specs.Ends.{IsToldBy}
use Rattle.command_line.specs.declared.request.Alone.{Alone}
use Rattle.command_line.specs.declared.request.Alone.TheVariants.{Generate, SumUp, Show, Unclear}
use Rattle.command_line.specs.declared.request.Question as code_question
use Rattle.command_line.specs.declared.request.Report.{Report}
use Rattle.command_line.specs.declared.request.Report.TheVariants.{Check, Groups, Compile, Lint}
use Rattle.command_line.specs.Requests.{Request, alone_seen, question_seen, report_seen}
use Rattle.cosmos_app.specs.Answers.{IsAnswerIn, IsAnswerTo}
use Rattle.circuit_files.specs.Starts.{Started}
use Rattle.cosmos_app.specs.Starts.{ScriptStarts, RequestStarts}
use Rattle.cosmos_app.specs.Wholes.{scripts_of, files_of}
use Rattle.circuit_files.specs.Wholes.{ReadsWhole}

-- ---- a question

module _ (question seen : code_question.Question) (is : question ≡ seen) where
  pub told_question : (known : Option (List ℕ → List ℕ)) (circuit : CircuitData) (old new : Option (List ℕ)) (before after : List GroupTextData) (result : Result end.End Stop) →
      IfSome known (λ holds. IsToldBy (IsAnswerIn (question_seen seen) holds circuit) old new before after result) →
      IfSome known (λ holds. IsToldBy (IsAnswerIn (question_seen question) holds circuit) old new before after result)
  told_question known circuit old new before after result told =
      subst (λ (asked : code_question.Question). IfSome known (λ holds. IsToldBy (IsAnswerIn (question_seen asked) holds circuit) old new before after result))
      (sym is) told

  pub starts_question : (old new : Started) → ScriptStarts (question_seen seen) old new → ScriptStarts (question_seen question) old new
  starts_question old new starts = subst (λ (asked : code_question.Question). ScriptStarts (question_seen asked) old new) (sym is) starts

  pub whole_question : {T : Type 0} (known : Option (List ℕ → List ℕ)) (names : List (List ℕ)) (old new : Taken) (result : Result T Stop) →
      names ≡ scripts_of (question_seen seen) → IfOk result (λ _. IfSome known (λ holds. ReadsWhole old new holds names)) →
      IfOk result (λ _. IfSome known (λ holds. ReadsWhole old new holds (scripts_of (question_seen question))))
  whole_question known names old new result same read =
      subst (λ (asked : code_question.Question). IfOk result (λ _. IfSome known (λ holds. ReadsWhole old new holds (scripts_of (question_seen asked)))))
      (sym is) (subst (λ (needed : List (List ℕ)). IfOk result (λ _. IfSome known (λ holds. ReadsWhole old new holds needed))) same read)

-- what is told of a circuit alone starts no file, and needs none
pub starts_reported : (report : Report) (started : Started) → ScriptStarts (report_seen report) started started
starts_reported Check started = refl
starts_reported Groups started = refl
starts_reported Compile started = refl
starts_reported Lint started = refl

pub scripts_reported : (report : Report) → [] ≡ scripts_of (report_seen report)
scripts_reported Check = refl
scripts_reported Groups = refl
scripts_reported Compile = refl
scripts_reported Lint = refl

-- ---- a request

module _ (request asked : Request) (same : request ≡ asked) (known : Option (List ℕ → List ℕ)) where
  pub told_request : (old new : Option (List ℕ)) (before after : List GroupTextData) (result : Result end.End Stop) →
      IfSome known (λ holds. IsToldBy (IsAnswerTo request holds) old new before after result) →
      IfSome known (λ holds. IsToldBy (IsAnswerTo asked holds) old new before after result)
  told_request old new before after result told =
      subst (λ (to : Request). IfSome known (λ holds. IsToldBy (IsAnswerTo to holds) old new before after result)) same told

  pub starts_request : (old new : Started) → RequestStarts request known old new → RequestStarts asked known old new
  starts_request old new starts = subst (λ (to : Request). RequestStarts to known old new) same starts

  pub whole_request : {T : Type 0} (old new : Taken) (result : Result T Stop) →
      IfOk result (λ _. IfSome known (λ holds. ReadsWhole old new holds (files_of request holds))) →
      IfOk result (λ _. IfSome known (λ holds. ReadsWhole old new holds (files_of asked holds)))
  whole_request old new result read =
      subst (λ (to : Request). IfOk result (λ _. IfSome known (λ holds. ReadsWhole old new holds (files_of to holds)))) same read

-- what needs no file starts none, and reads none
pub starts_alone : (alone : Alone) (known : Option (List ℕ → List ℕ)) (started : Started) → RequestStarts (alone_seen alone) known started started
starts_alone (Generate part sample) known started = refl
starts_alone (SumUp sample) known started = refl
starts_alone (Show text) known started = refl
starts_alone Unclear known started = refl

pub files_alone : (alone : Alone) (holds : List ℕ → List ℕ) → files_of (alone_seen alone) holds ≡ []
files_alone (Generate part sample) holds = refl
files_alone (SumUp sample) holds = refl
files_alone (Show text) holds = refl
files_alone Unclear holds = refl
