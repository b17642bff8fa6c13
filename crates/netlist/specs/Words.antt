-- The words of circuits, names and edits that clauses cite, from one place.
pub use Rattle.netlist.specs.Names.{spells, node_of}
pub use Rattle.netlist.specs.Circuits.{CircuitData, rails_alone, IsCircuit, called, HasVisibleNames}
pub use Rattle.netlist.specs.Faults.{MakingFault, IsAnswered}
pub use Rattle.netlist.specs.Edits.{is_strength, is_size, with_node, node_named, with_input, with_store, switch_numbered, with_place, answer_of}
