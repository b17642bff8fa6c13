-- The circuit of a deck once more: that of the transistors of its expansion alone, one after the other.
use Rattle.std.specs.Prelude.{◌≡◌, ⊤, ℕ, List, [], ◌∷◌, All, bytes_eq, Option, Some, Ok, if◌then◌else◌}
use Rattle.strength_order.specs.declared.Profile.TheVariants.{One}
use Rattle.netlist.specs.Circuits.{CircuitData, rails_alone}
use Rattle.netlist.specs.Edits.{with_transistor}
use Rattle.spice_cards.specs.Decks.{DeckCards}
use Rattle.spice_cards.specs.Reading.{cards_of}
use Rattle.spice_read.specs.Steps.{Step, steps_of}
use Rattle.spice_read.specs.Steps.Step.{opened, placed, refused}

-- the circuit with the transistors of these steps, added in order
abbrev pub with_placed : CircuitData → List Step → CircuitData
with_placed c [] = c
with_placed c (opened line ∷ steps) = with_placed c steps
with_placed c (placed line kind strength gate source drain ∷ steps) = with_placed (with_transistor c kind strength gate source drain) steps
with_placed c (refused line what ∷ steps) = with_placed c steps

-- the step is no refusal
abbrev pub IsDone : Step → Type 0
IsDone (opened line) = ⊤
IsDone (placed line kind strength gate source drain) = ⊤
IsDone (refused line what) = ⊥

-- what the last of these entries of a name has, if there is one, else this
abbrev pub last_named : Option (List ℕ) → List (List ℕ × List ℕ) → List ℕ → Option (List ℕ)
last_named found [] name = found
last_named found (entry ∷ entries) name = last_named (if bytes_eq name entry.0 then Some entry.1 else found) entries name

-- the circuit is that of the transistors of the text's expansion, in which nothing is refused
pub record IsExpanded (text : List ℕ) (c : CircuitData) : Type 0 where
  pub deck : DeckCards
  pub cards : cards_of text ≡ Ok deck
  pub done : All IsDone (steps_of deck)
  pub circuit : c ≡ with_placed (rails_alone One) (steps_of deck)
