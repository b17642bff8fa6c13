-- What is told of the first group that is too large is told of the line of its cause.
use Rattle.std.proofs.Common.{◌≡◌, ℕ, inl, inr, List, Option, Some, Result, Ok, Err}
use Rattle.netlist.specs.Circuits.{CircuitData}
use Rattle.group_text.specs.Texts.{GroupTextData}
use Rattle.circuit_texts.specs.declared.texts.BuildFault.{BuildFault}
use Rattle.circuit_texts.specs.Sizes.{TellsRefused}
use Rattle.printed_lines.specs.declared.faults.FaultPlace.{FaultPlace}
use Rattle.run_ends.specs.declared.status.Status.{Status}
use Rattle.run_ends.specs.declared.stop.Stop.{Stop}
use Rattle.run_ends.specs.declared.stop.End as end
use Rattle.run_ends.specs.Causes.{Cause, size_cause}
use Rattle.run_ends.specs.Answers.{Answer, IsRefusalFor, IsTooLarge}
use Rattle.run_ends.specs.Ends.{IsTold, IsToldBy}

pub told_too_large : (bound : ℕ) (circuit : CircuitData) (place : FaultPlace) (status : Status) (IsRight : Answer → Type 0) (old new : Option (List ℕ))
    (asked told : List GroupTextData) (result : Result end.End Stop) →
    ((fault : BuildFault) (cause : Cause) → TellsRefused bound circuit.graph fault → size_cause circuit fault ≡ Some cause →
    IsTold (IsRefusalFor place cause status) old new result → IsToldBy IsRight old new asked told result) →
    IsTold (IsTooLarge bound circuit place status) old new result → IsToldBy IsRight old new asked told result
told_too_large bound circuit place status IsRight old new asked told (Ok ending) line written =
    let large = written.right in
    line large.fault large.cause large.first large.named
    (record { answer = written.answer; right = large.told; ended = written.ended; grew = written.grew })
told_too_large bound circuit place status IsRight old new asked told (Err stop) line (inl same) = inl same
told_too_large bound circuit place status IsRight old new asked told (Err stop) line (inr begun) =
    let large = begun.right in
    line large.fault large.cause large.first large.named
    (inr (record { answer = begun.answer; right = large.told; part = begun.part }))
