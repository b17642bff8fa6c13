-- The circuit of a deck, by what is read of its text in small letters.
use Rattle.std.proofs.Common.{◌≡◌, ℕ, List, map, Option, Result, Ok, Err, IfOk, sym, ◌∙◌, ap}
use Rattle.std.specs.Char.{to_ascii_lowercase}
use Rattle.std.specs.List.{enumerate_from}
use Rattle.line_words.specs.Files.{cut_line, front_of}
use Rattle.line_words.specs.Lines.{lines_of}
use Rattle.netlist.specs.Circuits.{CircuitData, HasVisibleNames, IsCircuit}
use Rattle.ternary.specs.declared.unmade.Unmade.{Unmade}
use Rattle.ternary.specs.declared.unmade.Unmade.TheVariants.{Refused, NoMemory}
use Rattle.ternary.specs.Unmade.{IsFault}
use Rattle.spice_cards.specs.declared.fault.DeckRefusal.{DeckRefusal}
use Rattle.spice_cards.specs.Decks.{DeckCards}
use Rattle.spice_cards.specs.Reading.{cards_of, titled_meaning}
use Rattle.spice_cards.proofs.FrontLemmas.{cards_of-front_of}
use Rattle.spice_read.specs.Making.{circuit_by, circuit_of}
use Rattle.spice_read.proofs.VisibleLemmas.{circuit_of-circuit, circuit_of-visible}

-- the cards that are read
pub cards-read : (text : List ℕ) (cut : Option ℕ) (bytes : List ℕ) → cut ≡ cut_line text → bytes ≡ map to_ascii_lowercase (front_of text) →
    titled_meaning cut (enumerate_from 1 (lines_of bytes)) ≡ cards_of text
unfolding cards_of
cards-read text cut bytes is_cut are =
    ap (λ (c : Option ℕ). titled_meaning c (enumerate_from 1 (lines_of bytes))) is_cut
    ∙ ap (λ (bs : List ℕ). titled_meaning (cut_line text) (enumerate_from 1 (lines_of bs))) are

-- what they give
pub circuit-read : (text : List ℕ) (deck : DeckCards) → cards_of text ≡ Ok deck → circuit_by (Ok deck) ≡ circuit_of text
unfolding circuit_of
circuit-read text deck same = ap circuit_by (sym same)

-- and their refusal
pub fault-read : (text : List ℕ) (told : Unmade DeckRefusal) → IsFault (cards_of text) told → IsFault (circuit_of text) told
unfolding circuit_of
fault-read text (Refused refusal) tells = ap circuit_by tells
fault-read text NoMemory tells = tt

-- what is read is a circuit
pub circuit-is : (answer : Result CircuitData (Unmade DeckRefusal)) (text : List ℕ) → IfOk answer (λ c. circuit_of text ≡ Ok c) → IfOk answer IsCircuit
circuit-is (Ok c) text same = circuit_of-circuit text c same
circuit-is (Err told) text same = tt

-- with visible names
pub circuit-visible : (answer : Result CircuitData (Unmade DeckRefusal)) (text : List ℕ) → IfOk answer (λ c. circuit_of text ≡ Ok c) → IfOk answer HasVisibleNames
circuit-visible (Ok c) text same = circuit_of-visible text c same
circuit-visible (Err told) text same = tt

-- what stands behind the first byte too many of a deck has no meaning
pub circuit_of-front_of : (text : List ℕ) → circuit_of (front_of text) ≡ circuit_of text
unfolding circuit_of
circuit_of-front_of text = ap circuit_by (cards_of-front_of text)
