-- What the steps of an expansion make, one after the other: a circuit, or the first refusal.
use Rattle.std.specs.Prelude.{ℕ, ◌+◌, List, [], ◌∷◌, nat_le, Option, Some, None, Result, Ok, Err, if◌then◌else◌}
use Rattle.strength_order.specs.declared.Profile.TheVariants.{One}
use Rattle.netlist.specs.Circuits.{CircuitData, rails_alone}
use Rattle.netlist.specs.Edits.{add_fault, with_transistor}
use Rattle.netlist.specs.Faults.{MakingFault}
use Rattle.spice_cards.specs.declared.fault.DeckRefusal.{DeckRefusal}
use Rattle.spice_cards.specs.declared.fault.DeckWhat.{DeckWhat}
use Rattle.spice_cards.specs.declared.fault.DeckWhat.TheVariants.{TooManyCalls, BadStrength, TooManyNodes, TooManySwitches}
use Rattle.spice_cards.specs.Decks.{DeckCards}
use Rattle.spice_cards.specs.Reading.{cards_of, refusal_at}
use Rattle.spice_read.specs.declared.expansion.TheConstants.{MOST_CALLS}
use Rattle.spice_read.specs.Steps.{Step, steps_of}
use Rattle.spice_read.specs.Steps.Step.{opened, placed, refused}

-- what was made so far: the circuit, and how many calls were opened
pub record MadeData : Type 0 where
  pub circuit : CircuitData
  pub calls : ℕ

-- before the first step: the rails alone
abbrev pub nothing_made : MadeData
nothing_made = record { circuit = rails_alone One; calls = 0 }

-- why a transistor isn't added, by the fault of the edit; that names are taken is an alias's fault, and no transistor's
abbrev pub edit_cause : MakingFault → DeckWhat
edit_cause MakingFault.BadStrength = BadStrength
edit_cause MakingFault.AliasTaken = TooManyNodes
edit_cause MakingFault.TooManyNodes = TooManyNodes
edit_cause MakingFault.TooManySwitches = TooManySwitches

-- this, or the refusal of the edit that makes it
abbrev pub edited : ℕ → Option MakingFault → MadeData → Result MadeData DeckRefusal
edited line None made = Ok made
edited line (Some fault) made = Err (refusal_at line (edit_cause fault))

-- what is made after a step
abbrev pub step_meaning : MadeData → Step → Result MadeData DeckRefusal
step_meaning made (opened line) =
    if nat_le MOST_CALLS made.calls then Err (refusal_at line TooManyCalls) else Ok (record made { calls = made.calls + 1 })
step_meaning made (placed line kind strength gate source drain) =
    edited line (add_fault made.circuit strength gate source drain)
    (record made { circuit = with_transistor made.circuit kind strength gate source drain })
step_meaning made (refused line what) = Err (refusal_at line what)

-- what the second makes of what the first gives, unless that is a refusal
abbrev pub onward : {T U E : Type 0} → Result T E → (T → Result U E) → Result U E
onward (Err fault) more = Err fault
onward (Ok next) more = more next

-- what is made after these steps, or the first refusal
abbrev pub after : MadeData → List Step → Result MadeData DeckRefusal
after made [] = Ok made
after made (step ∷ steps) = onward (step_meaning made step) (λ next. after next steps)

-- the circuit of cards, or their refusal, or the first refusal of their expansion
abbrev pub circuit_by : Result DeckCards DeckRefusal → Result CircuitData DeckRefusal
circuit_by cards = onward cards (λ deck. onward (after nothing_made (steps_of deck)) (λ made. Ok made.circuit))

-- the circuit of a deck, or its refusal
unfoldable pub circuit_of : List ℕ → Result CircuitData DeckRefusal
circuit_of text = circuit_by (cards_of text)
