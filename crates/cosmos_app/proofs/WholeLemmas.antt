-- How much of its files a run has read, joined from what each call says of it.
use Rattle.std.proofs.Common.{◌≡◌, ℕ, List, [], ◌∷◌, Option, None, Some, IfSome, IfOk, Result, Ok, Err, sym, subst}
use Rattle.netlist.specs.Circuits.{CircuitData}
use Rattle.ports.specs.Taken.{Taken}
use Rattle.run_ends.specs.declared.stop.End as end
use Rattle.run_ends.specs.declared.stop.End.TheVariants as ended
use Rattle.run_ends.specs.declared.stop.Stop.{Stop}
use Rattle.run_ends.specs.declared.stop.Stop.TheVariants.{Read, Write, Memory}
use Rattle.run_ends.specs.declared.status.Status.{Status}
use Rattle.command_line.specs.Requests.{Question, Request}
use Rattle.run_ends.specs.Ends.{status_after}
use Rattle.cosmos_app.specs.Wholes.{scripts_of, needed, files_of, ReadsAll}
use Rattle.circuit_files.specs.Wholes.{ReadsWhole}
use Rattle.circuit_files.proofs.WholeLemmas.{whole_none, whole_both}

-- what needs no file reads none
pub whole_unasked : (known : Option (List ℕ → List ℕ)) (request : Request) (taken : Taken) →
    ((holds : List ℕ → List ℕ) → files_of request holds ≡ []) → IfSome known (λ holds. ReadsWhole taken taken holds (files_of request holds))
whole_unasked None request taken asks = tt
whole_unasked (Some holds) request taken asks =
    subst (ReadsWhole taken taken holds) (sym (asks holds)) (whole_none taken)

-- after the netlist or the deck, what the question needs beside it
pub whole_beside : {E : Type 0} (meaning_of : List ℕ → Result CircuitData E) (known later : Option (List ℕ → List ℕ)) (net : List ℕ) (question : Question)
    (circuit : CircuitData) (old mid new : Taken) → IfSome known (λ holds. meaning_of (holds net) ≡ Ok circuit) → later ≡ known →
    IfSome known (λ holds. ReadsWhole old mid holds (net ∷ [])) → IfSome later (λ holds. ReadsWhole mid new holds (scripts_of question)) →
    IfSome known (λ holds. ReadsWhole old new holds (needed question net (meaning_of (holds net))))
whole_beside meaning_of None later net question circuit old mid new means kept before after = tt
whole_beside meaning_of (Some holds) later net question circuit old mid new means kept before after =
    let here : ReadsWhole mid new holds (scripts_of question) =
    subst (λ names. IfSome names (λ holds. ReadsWhole mid new holds (scripts_of question))) kept after in
    subst (λ meaning. ReadsWhole old new holds (needed question net meaning)) (sym means)
    (whole_both old mid new holds (net ∷ []) (scripts_of question) before here)

-- a refused netlist or deck alone
pub whole_refused : {E : Type 0} (meaning_of : List ℕ → Result CircuitData E) (known : Option (List ℕ → List ℕ)) (net : List ℕ) (question : Question)
    (refusal : E) (old new : Taken) → IfSome known (λ holds. meaning_of (holds net) ≡ Err refusal) →
    IfSome known (λ holds. ReadsWhole old new holds (net ∷ [])) →
    IfSome known (λ holds. ReadsWhole old new holds (needed question net (meaning_of (holds net))))
whole_refused meaning_of None net question refusal old new means read = tt
whole_refused meaning_of (Some holds) net question refusal old new means read =
    subst (λ meaning. ReadsWhole old new holds (needed question net meaning)) (sym means) read

-- what a run has read by its end, it has read by its status
whole_ended : (holds : List ℕ → List ℕ) (request : Request) (old new : Taken) (result : Result end.End Stop) →
    IfOk result (λ _. ReadsWhole old new holds (files_of request holds)) → ReadsAll old new holds request (status_after result)
whole_ended holds request old new (Ok ended.Done) read = read
whole_ended holds request old new (Ok ended.Mismatch) read = read
whole_ended holds request old new (Ok ended.Usage) read = read
whole_ended holds request old new (Ok ended.NetRefused) read = read
whole_ended holds request old new (Ok ended.ScriptRefused) read = read
whole_ended holds request old new (Err Read) read = tt
whole_ended holds request old new (Err Write) read = tt
whole_ended holds request old new (Err Memory) read = tt

-- if it is told what the names hold
told_ended : {T : Type 0} (holds : List ℕ → List ℕ) (P : (List ℕ → List ℕ) → Type 0) (result : Result T Stop) →
    IfOk result (λ _. IfSome (Some holds) P) → IfOk result (λ _. P holds)
told_ended holds P (Ok value) known = known
told_ended holds P (Err stop) known = tt

pub whole_all : (known : Option (List ℕ → List ℕ)) (request : Request) (old new : Taken) (result : Result end.End Stop) (status : Status) →
    status ≡ status_after result → IfOk result (λ _. IfSome known (λ holds. ReadsWhole old new holds (files_of request holds))) →
    IfSome known (λ holds. ReadsAll old new holds request status)
whole_all None request old new result status same read = tt
whole_all (Some holds) request old new result status same read =
    subst (ReadsAll old new holds request) (sym same)
    (whole_ended holds request old new result (told_ended holds (λ names. ReadsWhole old new names (files_of request names)) result read))
