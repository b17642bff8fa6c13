-- The circuit that a name stands for, that of a deck if it is the name of one and else that of a netlist, or its refusal.
use Rattle.std.specs.Prelude.{ℕ, Bool, true, false, List, Result, Ok, Err}
use Rattle.netlist.specs.Circuits.{CircuitData}
use Rattle.sim_read.specs.Meaning.{netlist_of}
use Rattle.sim_read.specs.declared.fault.NetRefusal.{NetRefusal}
use Rattle.spice_cards.specs.declared.fault.DeckRefusal.{DeckRefusal}
use Rattle.spice_read.specs.Making.{circuit_of}
use Rattle.command_line.specs.Decks.{is_deck_name}
use Rattle.circuit_reports.specs.Answers.{IsDeckRefusal, IsNetRefusal}
use Rattle.run_ends.specs.Answers.{Answer}
use Rattle.cosmos_app.specs.declared.named.CircuitRefusal.{CircuitRefusal}
use Rattle.cosmos_app.specs.declared.named.CircuitRefusal.TheVariants.{Deck, Net}

-- ---- what a text means

-- what a text means, with its refusal as one of a netlist or a deck
abbrev pub of_either : {E : Type 0} → (E → CircuitRefusal) → Result CircuitData E → Result CircuitData CircuitRefusal
of_either refused (Ok circuit) = Ok circuit
of_either refused (Err refusal) = Err (refused refusal)

-- what a netlist means so, and a deck
abbrev pub of_net : Result CircuitData NetRefusal → Result CircuitData CircuitRefusal
of_net read = of_either Net read

abbrev pub of_deck : Result CircuitData DeckRefusal → Result CircuitData CircuitRefusal
of_deck read = of_either Deck read

-- the circuit of a text, a deck's or a netlist's
abbrev pub circuit_by : Bool → List ℕ → Result CircuitData CircuitRefusal
circuit_by true text = of_deck (circuit_of text)
circuit_by false text = of_net (netlist_of text)

-- that of the text that a file of this name holds
abbrev pub circuit_named : List ℕ → List ℕ → Result CircuitData CircuitRefusal
circuit_named name text = circuit_by (is_deck_name name) text

-- ---- its refusal

-- the answer that tells a refusal: its line
abbrev pub IsCircuitRefusal : CircuitRefusal → Answer → Type 0
IsCircuitRefusal (Net refusal) answer = IsNetRefusal refusal answer
IsCircuitRefusal (Deck refusal) answer = IsDeckRefusal refusal.line refusal.what answer

-- the answer over a netlist or a deck that means this: that in its circuit, or its refusal
abbrev pub IsOverEither : (CircuitData → Answer → Type 0) → Result CircuitData CircuitRefusal → Answer → Type 0
IsOverEither IsRight (Ok circuit) answer = IsRight circuit answer
IsOverEither IsRight (Err refusal) answer = IsCircuitRefusal refusal answer
