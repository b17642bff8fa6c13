-- What is asked of a run whose text is read again.
use Rattle.std.specs.Prelude.{◌≡◌, ℕ, List, length, Ok}
use Rattle.ternary.specs.declared.tern.Tern.{Tern}
use Rattle.switch_paths.specs.Graphs.{nodes}
use Rattle.switch_paths.specs.Rails.{IsSound}
use Rattle.netlist.specs.Circuits.{CircuitData}
use Rattle.sim_read.specs.Meaning.{netlist_of}
use Rattle.circuit_texts.specs.Sizes.{AllFit}
use Rattle.command_line.specs.Requests.{About, Compile, request_of}

-- the words ask for the listing of this circuit, and none of its groups is too large
pub record AskForListing (words : List (List ℕ)) (holds : List ℕ → List ℕ) (circuit : CircuitData) : Type 0 where
  pub net : List ℕ
  pub asked : request_of words ≡ About net Compile
  pub accepted : netlist_of (holds net) ≡ Ok circuit
  pub fit : AllFit circuit.graph

-- there is one state for each node of the circuit, and the rails have their own
pub record IsStateOf (circuit : CircuitData) (state : List Tern) : Type 0 where
  pub counted : length state ≡ nodes circuit.graph
  pub sound : IsSound state
