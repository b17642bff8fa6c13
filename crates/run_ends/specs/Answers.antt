-- What is answered: the lines of refusals, and what a call that meets a fault may have written.
use Rattle.std.specs.Prelude.{◌≡◌, ◌⊎◌, ℕ, List, [], ◌++◌, Option, Some}
use Rattle.std.specs.Io.KnownBytes.{append_known}
use Rattle.ports.specs.Sending.{WritesPart}
use Rattle.netlist.specs.Circuits.{CircuitData}
use Rattle.printed_lines.specs.declared.faults.FaultPlace.{FaultPlace}
use Rattle.printed_lines.specs.declared.faults.FaultCode.{FaultCode}
use Rattle.group_text.specs.Texts.{GroupTextData}
use Rattle.circuit_texts.specs.declared.texts.BuildFault.{BuildFault}
use Rattle.circuit_texts.specs.Sizes.{TellsRefused}
use Rattle.run_ends.specs.declared.status.Status.{Status}
use Rattle.run_ends.specs.Causes.{Cause, plain_cause, size_cause, cause_line}

-- what the program answers: its status, the text that it writes, and the texts of groups that it has analysed
pub record Answer : Type 0 where
  pub status : Status
  pub text : List ℕ
  pub texts : List GroupTextData

-- an answer for which no text of a group is analysed
abbrev pub plain_answer : Status → List ℕ → Answer
plain_answer status text = record { status = status; text = text; texts = [] }

-- the answer is the line of a refusal alone, for this cause
abbrev pub IsRefusalFor : FaultPlace → Cause → Status → Answer → Type 0
IsRefusalFor place cause status answer = answer ≡ plain_answer status (cause_line place cause)

-- the answer is the line of a refusal that names no group
abbrev pub IsRefusal : FaultPlace → FaultCode → Status → Answer → Type 0
IsRefusal place code status answer = IsRefusalFor place (plain_cause code) status answer

-- the answer is the line of the first group that is refused with this bound
pub record IsTooLarge (large : ℕ) (circuit : CircuitData) (place : FaultPlace) (status : Status) (answer : Answer) : Type 0 where
  pub fault : BuildFault
  pub first : TellsRefused large circuit.graph fault
  pub cause : Cause
  pub named : size_cause circuit fault ≡ Some cause
  pub told : IsRefusalFor place cause status answer

-- some right answer was written whole, and this is its status
pub record IsWritten (IsRight : Answer → Type 0) (old new : Option (List ℕ)) (status : Status) : Type 0 where
  pub answer : Answer
  pub right : IsRight answer
  pub ended : answer.status ≡ status
  pub grew : new ≡ append_known old answer.text

-- some text of a right answer was written in part, from its start
pub record IsBegun (IsRight : Answer → Type 0) (old new : Option (List ℕ)) : Type 0 where
  pub answer : Answer
  pub right : IsRight answer
  pub part : WritesPart old new answer.text

-- nothing was written, or a part of a right answer
abbrev pub IsStopped : (Answer → Type 0) → Option (List ℕ) → Option (List ℕ) → Type 0
IsStopped IsRight old new = (new ≡ old) ⊎ IsBegun IsRight old new

-- the answer is right, and its texts were analysed, in order, after those before
abbrev pub IsAnalysed : (Answer → Type 0) → List GroupTextData → List GroupTextData → Answer → Type 0
IsAnalysed IsRight before after answer = IsRight answer × (after ≡ before ++ answer.texts)
