-- How a run ends, with what it wrote: inside the program, before the end becomes a status.
use Rattle.std.specs.Prelude.{◌≡◌, ℕ, List, Option, Result, Ok, Err, IfErr}
use Rattle.group_text.specs.Texts.{GroupTextData}
use Rattle.run_ends.specs.declared.stop.End as end
use Rattle.run_ends.specs.declared.stop.End.TheVariants as ended
use Rattle.run_ends.specs.declared.stop.Stop.{Stop}
use Rattle.run_ends.specs.declared.stop.Stop.TheVariants.{Read, Write, Memory}
use Rattle.run_ends.specs.declared.status.Status.{Status}
use Rattle.run_ends.specs.declared.status.Status.TheVariants as status
use Rattle.run_ends.specs.Answers.{Answer, IsWritten, IsStopped, IsAnalysed}

-- the status of a run that met no fault and no lack of memory
abbrev pub status_of : end.End → Status
status_of ended.Done = status.Done
status_of ended.Mismatch = status.Mismatch
status_of ended.Usage = status.Usage
status_of ended.NetRefused = status.NetRefused
status_of ended.ScriptRefused = status.ScriptRefused

-- the status of a run
abbrev pub status_after : Result end.End Stop → Status
status_after (Ok end) = status_of end
status_after (Err Read) = status.ReadFault
status_after (Err Write) = status.WriteFault
status_after (Err Memory) = status.NoMemory

-- a right answer was written whole, with the end's status; where the run stopped, nothing or a part of a right answer
abbrev pub IsTold : (Answer → Type 0) → Option (List ℕ) → Option (List ℕ) → Result end.End Stop → Type 0
IsTold IsRight old new (Ok end) = IsWritten IsRight old new (status_of end)
IsTold IsRight old new (Err stop) = IsStopped IsRight old new

-- and the texts of the answer were analysed; where the run stopped, nothing is said of them
abbrev pub IsToldBy : (Answer → Type 0) → Option (List ℕ) → Option (List ℕ) → List GroupTextData → List GroupTextData → Result end.End Stop → Type 0
IsToldBy IsRight old new before after (Ok end) = IsWritten (IsAnalysed IsRight before after) old new (status_of end)
IsToldBy IsRight old new before after (Err stop) = IsStopped IsRight old new

-- nothing was written where reading stopped the run
abbrev pub IsUntouched : {T X : Type 0} → X → X → Result T Stop → Type 0
IsUntouched old new result = IfErr result (λ stop. stop ≡ Read → new ≡ old)
