-- What is so of what a netlist or a deck means is so of the request about it.
use Rattle.std.proofs.Common.{◌≡◌, ℕ, inl, inr, Bool, true, false, List, Option, None, Some, IfSome, Result, Ok, Err, IfOk, if◌then◌else◌, refl, subst}
use Rattle.ports.specs.Taken.{Taken}
use Rattle.netlist.specs.Circuits.{CircuitData}
use Rattle.group_text.specs.Texts.{GroupTextData}
use Rattle.sim_read.specs.Meaning.{netlist_of}
use Rattle.sim_read.specs.declared.fault.NetRefusal.{NetRefusal}
use Rattle.spice_cards.specs.declared.fault.DeckRefusal.{DeckRefusal}
use Rattle.spice_read.specs.Making.{circuit_of}
use Rattle.command_line.specs.Requests.{Question, Request, About, OverDeck}
use Rattle.circuit_files.specs.Starts.{Started}
use Rattle.circuit_files.specs.Wholes.{ReadsWhole}
use Rattle.circuit_reports.specs.Answers.{IsOver, IsOverDeck}
use Rattle.run_ends.specs.declared.stop.End as end
use Rattle.run_ends.specs.declared.stop.Stop.{Stop}
use Rattle.run_ends.specs.Answers.{Answer}
use Rattle.run_ends.specs.Ends.{IsToldBy}
use Rattle.run_ends.proofs.EndLemmas.{told_by_as}
use Rattle.cosmos_app.specs.declared.named.CircuitRefusal.{CircuitRefusal}
use Rattle.cosmos_app.specs.declared.named.CircuitRefusal.TheVariants.{Deck, Net}
use Rattle.cosmos_app.specs.Answers.{IsAnswerIn, IsAnswerTo}
use Rattle.cosmos_app.specs.Named.{circuit_by, of_deck, of_either, of_net, IsOverEither}
use Rattle.cosmos_app.specs.Starts.{IsAccepted, QuestionStarts, RequestStarts}
use Rattle.cosmos_app.specs.Wholes.{files_of, needed}

-- the request about a deck, or else about a netlist
abbrev asked : Bool → List ℕ → Question → Request
asked deck net question = if deck then OverDeck net question else About net question

-- ---- the answer

over_deck : (IsRight : CircuitData → Answer → Type 0) (read : Result CircuitData DeckRefusal) (answer : Answer) → IsOverEither IsRight (of_deck read) answer →
    IsOverDeck IsRight read answer
over_deck IsRight (Ok circuit) answer right = right
over_deck IsRight (Err refusal) answer right = right

over_net : (IsRight : CircuitData → Answer → Type 0) (read : Result CircuitData NetRefusal) (answer : Answer) → IsOverEither IsRight (of_net read) answer →
    IsOver IsRight read answer
over_net IsRight (Ok circuit) answer right = right
over_net IsRight (Err refusal) answer right = right

answer_over : (deck : Bool) (net : List ℕ) (question : Question) (holds : List ℕ → List ℕ) (answer : Answer) →
    IsOverEither (IsAnswerIn question holds) (circuit_by deck (holds net)) answer → IsAnswerTo (asked deck net question) holds answer
answer_over true net question holds answer right = over_deck (IsAnswerIn question holds) (circuit_of (holds net)) answer right
answer_over false net question holds answer right = over_net (IsAnswerIn question holds) (netlist_of (holds net)) answer right

pub told_over : (deck : Bool) (net : List ℕ) (question : Question) (known : Option (List ℕ → List ℕ)) (old new : Option (List ℕ))
    (before after : List GroupTextData) (result : Result end.End Stop) →
    IfSome known (λ holds. IsToldBy (IsOverEither (IsAnswerIn question holds) (circuit_by deck (holds net))) old new before after result) →
    IfSome known (λ holds. IsToldBy (IsAnswerTo (asked deck net question) holds) old new before after result)
told_over deck net question None old new before after result told = tt
told_over deck net question (Some holds) old new before after result told =
    told_by_as (IsOverEither (IsAnswerIn question holds) (circuit_by deck (holds net))) (IsAnswerTo (asked deck net question) holds) old new before after result
    (answer_over deck net question holds) told

-- ---- what was started

accepted_either : {E : Type 0} (refused : E → CircuitRefusal) (read : Result CircuitData E) → IsAccepted (of_either refused read) → IsAccepted read
accepted_either refused (Ok circuit) is = tt
accepted_either refused (Err refusal) is = is

pub starts_over : (deck : Bool) (net : List ℕ) (question : Question) (known : Option (List ℕ → List ℕ)) (old new : Started) →
    QuestionStarts (circuit_by deck) net question known old new → RequestStarts (asked deck net question) known old new
starts_over true net question known old new (inl first) = inl first
starts_over true net question None old new (inr (beside, is)) = inr (beside, tt)
starts_over true net question (Some holds) old new (inr (beside, is)) = inr (beside, accepted_either Deck (circuit_of (holds net)) is)
starts_over false net question known old new (inl first) = inl first
starts_over false net question None old new (inr (beside, is)) = inr (beside, tt)
starts_over false net question (Some holds) old new (inr (beside, is)) = inr (beside, accepted_either Net (netlist_of (holds net)) is)

-- ---- what was read

needed_either : {E : Type 0} (refused : E → CircuitRefusal) (net : List ℕ) (question : Question) (read : Result CircuitData E) →
    needed question net (of_either refused read) ≡ needed question net read
needed_either refused net question (Ok circuit) = refl
needed_either refused net question (Err refusal) = refl

files_over : (deck : Bool) (net : List ℕ) (question : Question) (holds : List ℕ → List ℕ) →
    needed question net (circuit_by deck (holds net)) ≡ files_of (asked deck net question) holds
files_over true net question holds = needed_either Deck net question (circuit_of (holds net))
files_over false net question holds = needed_either Net net question (netlist_of (holds net))

pub whole_over : {T : Type 0} (deck : Bool) (net : List ℕ) (question : Question) (known : Option (List ℕ → List ℕ)) (old new : Taken) (result : Result T Stop) →
    IfOk result (λ _. IfSome known (λ holds. ReadsWhole old new holds (needed question net (circuit_by deck (holds net))))) →
    IfOk result (λ _. IfSome known (λ holds. ReadsWhole old new holds (files_of (asked deck net question) holds)))
whole_over deck net question known old new (Err stop) read = tt
whole_over deck net question None old new (Ok ended) read = tt
whole_over deck net question (Some holds) old new (Ok ended) read = subst (ReadsWhole old new holds) (files_over deck net question holds) read
