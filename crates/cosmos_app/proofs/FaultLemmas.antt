-- What is told of the script and the list of faults that were read is told of their files, which were started and read one after the other.
use Rattle.std.proofs.Common.{◌≡◌, ℕ, inl, inr, List, [], ◌∷◌, length, Option, None, Some, IfSome, Result, ap, subst, ◌∙◌}
use Rattle.line_words.specs.Files.{front_of}
use Rattle.ports.specs.Ports.{with_name}
use Rattle.ports.specs.Taken.{Taken, with_files}
use Rattle.netlist.specs.Circuits.{CircuitData}
use Rattle.group_text.specs.Texts.{GroupTextData}
use Rattle.run_ends.specs.declared.stop.Stop.{Stop}
use Rattle.run_ends.specs.declared.stop.End as end
use Rattle.run_ends.specs.Ends.{IsToldBy}
use Rattle.fault_meaning.specs.Judging.{AreJudgedFaults}
use Rattle.fault_meaning.proofs.FrontLemmas.{are_judged-front}
use Rattle.circuit_files.specs.Starts.{Started, StartsAtMost}
use Rattle.cosmos_app.specs.Starts.{StartsInOrder}
use Rattle.circuit_files.specs.Wholes.{ReadsWhole}
use Rattle.run_ends.proofs.EndLemmas.{told_by_as}
use Rattle.circuit_files.proofs.WholeLemmas.{whole_file, whole_both}

-- what was told of the texts that were read
pub told_judged : (known later : Option (List ℕ → List ℕ)) (script list : List ℕ) (circuit : CircuitData) (text seen faults listed : List ℕ)
    (old new : Option (List ℕ)) (before after : List GroupTextData) (result : Result end.End Stop) →
    IfSome known (λ holds. text ≡ front_of (holds script)) → later ≡ known → IfSome later (λ holds. faults ≡ front_of (holds list)) →
    seen ≡ text → listed ≡ faults → IsToldBy (AreJudgedFaults seen listed circuit) old new before after result →
    IfSome known (λ holds. IsToldBy (AreJudgedFaults (holds script) (holds list) circuit) old new before after result)
told_judged None later script list circuit text seen faults listed old new before after result first kept second same alike told = tt
told_judged (Some holds) later script list circuit text seen faults listed old new before after result first kept second same alike told =
    let of_list : faults ≡ front_of (holds list) = subst (λ known. IfSome known (λ names. faults ≡ front_of (names list))) kept second in
    told_by_as (AreJudgedFaults (front_of (holds script)) (front_of (holds list)) circuit) (AreJudgedFaults (holds script) (holds list) circuit)
    old new before after result (are_judged-front circuit (holds script) (holds list))
    (subst (λ front. IsToldBy (AreJudgedFaults front (front_of (holds list)) circuit) old new before after result) (same ∙ first)
    (subst (λ front. IsToldBy (AreJudgedFaults seen front circuit) old new before after result) (alike ∙ of_list) told))

-- the first file was started, and the second one perhaps
pub starts_late : (old mid new : Started) (first second : List ℕ) → mid ≡ with_name old first → StartsAtMost mid new second →
    StartsInOrder old new first second
starts_late old mid new first second started (inl same) = inl (inr (same ∙ started))
starts_late old mid new first second started (inr after) = inr (after ∙ ap (λ names. with_name names second) started)

-- both files were read whole
pub whole_two : (known later : Option (List ℕ → List ℕ)) (script list text faults : List ℕ) (old mid new : Taken) →
    IfSome known (λ holds. text ≡ front_of (holds script)) → later ≡ known → IfSome later (λ holds. faults ≡ front_of (holds list)) →
    mid ≡ with_files old (length text ∷ []) → new ≡ with_files mid (length faults ∷ []) →
    IfSome known (λ holds. ReadsWhole old new holds (list ∷ script ∷ []))
whole_two None later script list text faults old mid new first kept second taken more = tt
whole_two (Some holds) later script list text faults old mid new first kept second taken more =
    let of_list : faults ≡ front_of (holds list) = subst (λ known. IfSome known (λ names. faults ≡ front_of (names list))) kept second in
    whole_both old mid new holds (script ∷ []) (list ∷ []) (whole_file (Some holds) script text old mid first taken)
    (whole_file (Some holds) list faults mid new of_list more)
