-- What is told of the text that was read of a netlist or a deck is told of the file.
use Rattle.std.proofs.Common.{◌≡◌, ℕ, Bool, List, [], Option, None, Some, IfSome, Result, Ok, Err, IfOk, refl, sym, ap, subst}
use Rattle.ports.proofs.ResultLemmas.{at_known}
use Rattle.netlist.specs.Circuits.{CircuitData}
use Rattle.group_text.specs.Texts.{GroupTextData}
use Rattle.command_line.specs.Decks.{is_deck_name}
use Rattle.run_ends.specs.declared.stop.Stop.{Stop}
use Rattle.run_ends.specs.declared.stop.End as end
use Rattle.run_ends.specs.Answers.{Answer}
use Rattle.run_ends.specs.Ends.{IsTold, IsToldBy}
use Rattle.run_ends.proofs.EndLemmas.{told_by_none}
use Rattle.cosmos_app.specs.declared.named.CircuitRefusal.{CircuitRefusal}
use Rattle.cosmos_app.specs.declared.named.CircuitRefusal.TheVariants.{Deck, Net}
use Rattle.cosmos_app.specs.Named.{circuit_by, circuit_named, of_either, IsCircuitRefusal, IsOverEither}

-- a file has the meaning that it is found to have
pub means_as : {M : Type 0} (meaning_of : List ℕ → M) (known : Option (List ℕ → List ℕ)) (file : List ℕ) (found what : M) → found ≡ what →
    IfSome known (λ holds. meaning_of (holds file) ≡ found) → IfSome known (λ holds. meaning_of (holds file) ≡ what)
means_as {M} meaning_of known file found what is means =
    subst (λ (other : M). IfSome known (λ holds. meaning_of (holds file) ≡ other)) is means

-- what is so of a meaning that a file has is so of the file
pub of_meaning : {M : Type 0} (P : (List ℕ → List ℕ) → M → Type 0) (meaning_of : List ℕ → M) (known later : Option (List ℕ → List ℕ)) (file : List ℕ) (meaning : M) →
    IfSome known (λ holds. meaning_of (holds file) ≡ meaning) → later ≡ known → IfSome later (λ holds. P holds meaning) →
    IfSome known (λ holds. P holds (meaning_of (holds file)))
of_meaning P meaning_of None later file meaning means kept is = tt
of_meaning P meaning_of (Some holds) later file meaning means kept is =
    let here : P holds meaning = subst (λ known. IfSome known (λ holds. P holds meaning)) kept is in
    subst (P holds) (sym means) here

-- what the text of a name means is what it means as a deck or as a netlist, as the name has it
pub means_by : (deck : Bool) (known : Option (List ℕ → List ℕ)) (name : List ℕ) (meaning : Result CircuitData CircuitRefusal) → deck ≡ is_deck_name name →
    IfSome known (λ holds. circuit_by deck (holds name) ≡ meaning) → IfSome known (λ holds. circuit_named name (holds name) ≡ meaning)
means_by deck None name meaning same means = tt
means_by deck (Some holds) name meaning same means = subst (λ (own : Bool). circuit_by own (holds name) ≡ meaning) same means

-- what is so of the circuit of a text is so where its refusal is one of a netlist or a deck
pub either_circuit : {E : Type 0} (refused : E → CircuitRefusal) (P : CircuitData → Type 0) (read : Result CircuitData E) (made : Result CircuitData CircuitRefusal) →
    made ≡ of_either refused read → IfOk read P → IfOk made P
either_circuit {E} refused P read made same is = subst (λ (meaning : Result CircuitData CircuitRefusal). IfOk meaning P) (sym same) (by read is) where
  by : (read : Result CircuitData E) → IfOk read P → IfOk (of_either refused read) P
  by (Ok circuit) is = is
  by (Err refusal) is = tt

-- no text of a group is analysed for the answer of a refusal
pub refusal_texts : (refusal : CircuitRefusal) (answer : Answer) → IsCircuitRefusal refusal answer → answer.texts ≡ []
refusal_texts (Net refusal) answer right = ap (λ (told : Answer). told.texts) right
refusal_texts (Deck refusal) answer right = ap (λ (told : Answer). told.texts) right

-- what was told of a refusal is told of the file
pub told_refusal : (IsRight : (List ℕ → List ℕ) → CircuitData → Answer → Type 0) (meaning_of : List ℕ → Result CircuitData CircuitRefusal)
    (known : Option (List ℕ → List ℕ)) (file : List ℕ) (refusal : CircuitRefusal) (old new : Option (List ℕ)) (analysed : List GroupTextData)
    (result : Result end.End Stop) → IfSome known (λ holds. meaning_of (holds file) ≡ Err refusal) → IsTold (IsCircuitRefusal refusal) old new result →
    IfSome known (λ holds. IsToldBy (IsOverEither (IsRight holds) (meaning_of (holds file))) old new analysed analysed result)
told_refusal IsRight meaning_of known file refusal old new analysed result means told =
    of_meaning (λ holds meaning. IsToldBy (IsOverEither (IsRight holds) meaning) old new analysed analysed result) meaning_of known known file (Err refusal)
    means refl
    (at_known known (λ holds. IsToldBy (IsOverEither (IsRight holds) (Err refusal)) old new analysed analysed result)
    (λ holds. told_by_none (IsCircuitRefusal refusal) (IsOverEither (IsRight holds) (Err refusal)) old new analysed result
    (λ answer right. (right, refusal_texts refusal answer right)) told))
