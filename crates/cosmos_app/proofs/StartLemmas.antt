-- Which files a run started, joined from what each call says of it.
use Rattle.std.proofs.Common.{◌≡◌, ℕ, inr, List, Option, None, Some, IfSome, Result, Ok, sym, subst}
use Rattle.ports.specs.Ports.{with_name}
use Rattle.netlist.specs.Circuits.{CircuitData}
use Rattle.command_line.specs.Requests.{Question}
use Rattle.circuit_files.specs.Starts.{Started}
use Rattle.cosmos_app.specs.Starts.{ScriptStarts, QuestionStarts, IsAccepted}

-- a text that means a circuit has no refusal
pub accepted : {E : Type 0} (meaning_of : List ℕ → Result CircuitData E) (known : Option (List ℕ → List ℕ)) (net : List ℕ) (circuit : CircuitData) →
    IfSome known (λ holds. meaning_of (holds net) ≡ Ok circuit) → IfSome known (λ holds. IsAccepted (meaning_of (holds net)))
accepted meaning_of None net circuit means = tt
accepted {E} meaning_of (Some holds) net circuit means = subst (λ (meaning : Result CircuitData E). IsAccepted meaning) (sym means) tt

-- after the netlist or the deck, what the question starts beside it
pub starts_beside : {E : Type 0} (meaning_of : List ℕ → Result CircuitData E) (known : Option (List ℕ → List ℕ)) (net : List ℕ) (question : Question)
    (circuit : CircuitData) (old mid new : Started) → IfSome known (λ holds. meaning_of (holds net) ≡ Ok circuit) → mid ≡ with_name old net →
    ScriptStarts question mid new → QuestionStarts meaning_of net question known old new
starts_beside meaning_of known net question circuit old mid new means first beside =
    inr (subst (λ (started : Started). ScriptStarts question started new) first beside, accepted meaning_of known net circuit means)
