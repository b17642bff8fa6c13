-- What was told of a node at the end of a script, or of the refusal that ended it, is told of the answer to `why`.
use Rattle.std.proofs.Common.{◌≡◌, ℕ, List, Option, None, Some, Result, refl, sym, ap, subst}
use Rattle.line_words.specs.Files.{lines_in, cut_line}
use Rattle.netlist.specs.Circuits.{CircuitData}
use Rattle.netlist.specs.Names.{node_of}
use Rattle.group_text.specs.Texts.{GroupTextData}
use Rattle.session_meaning.specs.Sessions.{SessionData, start_of}
use Rattle.run_ends.specs.declared.status.Status.TheVariants.{Done, Usage}
use Rattle.script_meaning.specs.declared.halt.Halt.{Halt}
use Rattle.script_meaning.specs.declared.halt.Halt.TheVariants.{End, Refused, TooLarge}
use Rattle.run_ends.specs.declared.stop.End as end
use Rattle.run_ends.specs.declared.stop.Stop.{Stop}
use Rattle.run_ends.specs.Causes.{plain_cause}
use Rattle.script_meaning.specs.Runs.{Outcome, Runs, plain_reading}
use Rattle.run_ends.specs.Answers.{Answer, plain_answer}
use Rattle.script_meaning.specs.Halts.{HaltsAt}
use Rattle.run_ends.specs.Ends.{IsTold, IsToldBy}
use Rattle.run_ends.proofs.EndLemmas.{told_as}
use Rattle.script_reports.specs.Reasoned.{unknown_node_line, ExplainsNode, IsExplained, IsExplainedAt, IsReasoned}
use Rattle.script_reports.specs.Explaining.{IsHaltExplained, hear_nothing}
use Rattle.script_reports.proofs.HaltedLemmas.{told_at, told_line, told_size}

-- a status and a text that explain the node where the script ended are a right answer
right_reasons : (script name : List ℕ) (circuit : CircuitData) (outcome : Outcome) → Runs plain_reading (cut_line script) (start_of circuit) (lines_in script) outcome →
    (answer : Answer) → IsExplainedAt name outcome.end outcome.refused answer.status answer.text →
    IsReasoned script name circuit (record { status = answer.status; text = answer.text; texts = outcome.texts })
right_reasons script name circuit outcome runs answer explained = record { outcome = outcome; runs = runs; explained = explained; texts = refl }

-- of an answer about where the lines ended
pub told_halt : (script name : List ℕ) (circuit : CircuitData) (new : SessionData) (old last : Option (List ℕ)) (asked told : List GroupTextData) (halt : Halt)
    (result : Result end.End Stop) → HaltsAt hear_nothing plain_reading (cut_line script) (start_of circuit) (lines_in script) new tt tt asked told halt →
    IsTold (IsHaltExplained name new halt) old last result → IsToldBy (IsReasoned script name circuit) old last asked told result
told_halt script name circuit new old last asked told End result halts written =
    told_at script circuit new old last asked told (IsExplainedAt name) (IsReasoned script name circuit) (right_reasons script name circuit)
    (λ stopped. (refl, refl)) None result halts written
told_halt script name circuit new old last asked told (Refused number code) result halts written =
    told_line script circuit new old last asked told (IsExplainedAt name) (IsReasoned script name circuit) (right_reasons script name circuit)
    (λ stopped. (refl, refl)) number (plain_cause code) result halts written
told_halt script name circuit new old last asked told (TooLarge number fault) result halts written =
    told_size script circuit new old last asked told (IsExplainedAt name) (IsReasoned script name circuit) (right_reasons script name circuit)
    (λ stopped. (refl, refl)) number fault result halts written

-- a name that isn't in use is refused
pub told_unknown : (new : SessionData) (name : List ℕ) (old last : Option (List ℕ)) (result : Result end.End Stop) → node_of new.circuit.names name ≡ None →
    IsTold (λ (answer : Answer). answer ≡ plain_answer Usage unknown_node_line) old last result →
    IsTold (λ (answer : Answer). IsExplained new (node_of new.circuit.names name) answer.status answer.text) old last result
told_unknown new name old last result none written =
    told_as (λ (answer : Answer). answer ≡ plain_answer Usage unknown_node_line)
    (λ (answer : Answer). IsExplained new (node_of new.circuit.names name) answer.status answer.text) old last result
    (λ answer is. subst (λ (node : Option ℕ). IsExplained new node answer.status answer.text) (sym none)
    (ap (λ (told : Answer). told.status) is, ap (λ (told : Answer). told.text) is)) written

-- and a node is explained
pub told_known : (new : SessionData) (name : List ℕ) (node : ℕ) (old last : Option (List ℕ)) (result : Result end.End Stop) → node_of new.circuit.names name ≡ Some node →
    IsTold (λ (answer : Answer). (answer.status ≡ Done) × ExplainsNode new.circuit new.state node answer.text) old last result →
    IsTold (λ (answer : Answer). IsExplained new (node_of new.circuit.names name) answer.status answer.text) old last result
told_known new name node old last result found written =
    told_as (λ (answer : Answer). (answer.status ≡ Done) × ExplainsNode new.circuit new.state node answer.text)
    (λ (answer : Answer). IsExplained new (node_of new.circuit.names name) answer.status answer.text) old last result
    (λ answer is. subst (λ (node : Option ℕ). IsExplained new node answer.status answer.text) (sym found) is) written
