-- What isn't refused is the circuit of the placed transistors alone, and no step of it is a refusal.
use Rattle.std.proofs.Common.{◌≡◌, ℕ, ◌+◌, Bool, true, false, All, List, [], ◌∷◌, nat_le, Option, Some, None, Result, Ok, Err, if◌then◌else◌, refl, sym, ◌∙◌, ap}
use Rattle.std.proofs.lemmas.List.Elements.{All-nil, All-cons}
use Rattle.netlist.specs.Circuits.{CircuitData}
use Rattle.netlist.specs.Edits.{add_fault, with_transistor}
use Rattle.netlist.specs.Faults.{MakingFault}
use Rattle.spice_cards.specs.declared.fault.DeckWhat.TheVariants.{TooManyCalls}
use Rattle.spice_cards.specs.Decks.{DeckCards}
use Rattle.spice_cards.specs.Reading.{cards_of, refusal_at}
use Rattle.spice_read.specs.declared.expansion.TheConstants.{MOST_CALLS}
use Rattle.spice_read.specs.Expansions.{IsDone, IsExpanded, with_placed}
use Rattle.spice_read.specs.Making.{MadeData, after, circuit_of, edited, nothing_made, onward}
use Rattle.spice_read.specs.Steps.{Step, steps_of}
use Rattle.spice_read.specs.Steps.Step.{opened, placed, refused}

same_ok : {T E : Type 0} (one other : T) → ◌≡◌ {A = Result T E} (Ok one) (Ok other) → one ≡ other
same_ok one other same = cc

-- what is done in two steps and isn't refused is refused in neither
pub record InTwo {T U E : Type 0} (first : Result T E) (more : T → Result U E) (last : U) : Type 0 where
  pub between : T
  pub given : first ≡ Ok between
  pub rest : more between ≡ Ok last

pub in_two : {T U E : Type 0} (first : Result T E) (more : T → Result U E) (last : U) → onward first more ≡ Ok last → InTwo first more last
in_two (Ok between) more last same = record { between = between; given = refl; rest = same }
in_two (Err told) more last same = absurd (cc)

-- what isn't refused is the circuit of the placed steps
pub record IsPlaced (c : CircuitData) (steps : List Step) (last : CircuitData) : Type 0 where
  pub done : All IsDone steps
  pub circuit : last ≡ with_placed c steps

pub after-placed : (steps : List Step) (made last : MadeData) → after made steps ≡ Ok last → IsPlaced made.circuit steps last.circuit
after-placed [] made last same = record {
  done = All-nil IsDone;
  circuit = ap (λ (m : MadeData). m.circuit) (sym (same_ok made last same));
}
after-placed (opened line ∷ steps) made last same =
    by (nat_le MOST_CALLS made.calls) same (λ next rest. after-placed steps next last rest)
  where
    by : (many : Bool) →
        onward (if many then Err (refusal_at line TooManyCalls) else Ok (record made { calls = made.calls + 1 })) (λ next. after next steps) ≡ Ok last →
        ((next : MadeData) → after next steps ≡ Ok last → IsPlaced next.circuit steps last.circuit) →
        IsPlaced made.circuit (opened line ∷ steps) last.circuit
    by true same later = absurd (cc)
    by false same later =
        let is = later (record made { calls = made.calls + 1 }) same in
        record { done = All-cons IsDone (opened line) steps tt is.done; circuit = is.circuit }
after-placed (placed line kind strength gate source drain ∷ steps) made last same =
    by (add_fault made.circuit strength gate source drain) same (λ next rest. after-placed steps next last rest)
  where
    by : (fault : Option MakingFault) →
        onward (edited line fault (record made { circuit = with_transistor made.circuit kind strength gate source drain })) (λ next. after next steps) ≡ Ok last →
        ((next : MadeData) → after next steps ≡ Ok last → IsPlaced next.circuit steps last.circuit) →
        IsPlaced made.circuit (placed line kind strength gate source drain ∷ steps) last.circuit
    by (Some fault) same later = absurd (cc)
    by None same later =
        let is = later (record made { circuit = with_transistor made.circuit kind strength gate source drain }) same in
        record { done = All-cons IsDone (placed line kind strength gate source drain) steps tt is.done; circuit = is.circuit }
after-placed (refused line what ∷ steps) made last same = absurd (cc)

-- the cards and what is made of them, if a deck isn't refused
pub record IsRead (text : List ℕ) (c : CircuitData) : Type 0 where
  pub deck : DeckCards
  pub cards : cards_of text ≡ Ok deck
  pub last : MadeData
  pub made : after nothing_made (steps_of deck) ≡ Ok last
  pub circuit : last.circuit ≡ c

pub circuit_of-read : (text : List ℕ) (c : CircuitData) → circuit_of text ≡ Ok c → IsRead text c
unfolding circuit_of
circuit_of-read text c same =
    let cards = in_two (cards_of text) (λ (deck : DeckCards). onward (after nothing_made (steps_of deck)) (λ made. Ok made.circuit)) c same in
    let made = in_two (after nothing_made (steps_of cards.between)) (λ (m : MadeData). Ok m.circuit) c cards.rest in
    record {
      deck = cards.between;
      cards = cards.given;
      last = made.between;
      made = made.given;
      circuit = same_ok made.between.circuit c made.rest;
    }

-- the circuit of a deck is that of its transistors alone
pub circuit_of-expanded : (text : List ℕ) (c : CircuitData) → circuit_of text ≡ Ok c → IsExpanded text c
circuit_of-expanded text c same =
    let read = circuit_of-read text c same in
    let placed = after-placed (steps_of read.deck) nothing_made read.last read.made in
    record {
      deck = read.deck;
      cards = read.cards;
      done = placed.done;
      circuit = sym read.circuit ∙ placed.circuit;
    }
