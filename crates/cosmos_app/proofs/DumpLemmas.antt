-- The dump of a script: what is told of the text that was read is told of the file, and by the status of the end.
use Rattle.std.proofs.Common.{◌≡◌, ℕ, false, List, Option, None, Some, IfSome, Result}
use Rattle.line_words.specs.Files.{front_of}
use Rattle.netlist.specs.Circuits.{CircuitData}
use Rattle.group_text.specs.Texts.{GroupTextData}
use Rattle.session_meaning.specs.Sessions.{start_of}
use Rattle.run_ends.specs.declared.stop.End as end
use Rattle.run_ends.specs.declared.stop.Stop.{Stop}
use Rattle.run_ends.specs.declared.status.Status.{Status}
use Rattle.run_ends.specs.Answers.{Answer}
use Rattle.run_ends.specs.Ends.{IsToldBy, status_after}
use Rattle.dump_run.specs.Dumped.{Dumps, IsDumped}
use Rattle.cosmos_app.specs.Dumping.{IsDump, IsDumpTo}
use Rattle.cosmos_app.proofs.PurposeLemmas.{at_front, told_front}

-- the dump of a script's front is that of the script
dumped-front : (circuit : CircuitData) (script : List ℕ) (answer : Answer) → IsDumped (front_of script) circuit answer → IsDumped script circuit answer
dumped-front circuit script answer right = record {
  dumped = right.dumped;
  dumps = at_front (λ cut lines. Dumps cut false (start_of circuit) lines right.dumped) script right.dumps;
  told = right.told;
}

-- what was told of the text that was read is told of the script
pub told_dumped : (known : Option (List ℕ → List ℕ)) (name : List ℕ) (circuit : CircuitData) (text seen : List ℕ) (old new : Option (List ℕ))
    (before after : List GroupTextData) (result : Result end.End Stop) → IfSome known (λ holds. text ≡ front_of (holds name)) → seen ≡ text →
    IsToldBy (IsDumped seen circuit) old new before after result →
    IfSome known (λ holds. IsToldBy (IsDumped (holds name) circuit) old new before after result)
told_dumped known name circuit = told_front (λ script. IsDumped script circuit) (dumped-front circuit) known name

-- what was told is told by the status of the end
pub told_dump : (known : Option (List ℕ → List ℕ)) (net script : List ℕ) (old new : Option (List ℕ)) (before after : List GroupTextData)
    (result : Result end.End Stop) (status : Status) → status ≡ status_after result →
    IfSome known (λ holds. IsToldBy (IsDump net script holds) old new before after result) →
    IfSome known (λ holds. IsDumpTo net script holds old new before after status)
told_dump None net script old new before after result status is told = tt
told_dump (Some holds) net script old new before after result status is told = (result, is, told)
