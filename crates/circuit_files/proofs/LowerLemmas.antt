-- What the crates below show of netlists.
use Rattle.std.proofs.Common.{◌≡◌, ℕ, List, Ok}
use Rattle.line_words.specs.Files.{front_of}
use Rattle.netlist.specs.Circuits.{CircuitData, IsCircuit}
use Rattle.sim_read.specs.Meaning.{netlist_of}
use Rattle.sim_read.proofs.CircuitLemmas as circuits
use Rattle.sim_read.proofs.MeaningLemmas as meanings

-- what a netlist gives is a circuit
pub netlist_of-netlist : (text : List ℕ) (circuit : CircuitData) → netlist_of text ≡ Ok circuit → IsCircuit circuit
netlist_of-netlist text circuit is = circuits.netlist_of-netlist text circuit is

-- a netlist means what its front means
pub netlist_of-front_of : (text : List ℕ) → netlist_of (front_of text) ≡ netlist_of text
netlist_of-front_of text = meanings.netlist_of-front_of text
