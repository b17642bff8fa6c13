-- The words of the clauses, from one place.
pub use Rattle.line_words.specs.Decimals.{decimal_of}
pub use Rattle.switch_paths.specs.Graphs.{nodes}
pub use Rattle.netlist.specs.Edits.{switch_numbered}
pub use Rattle.netlist.specs.Names.{node_of}
