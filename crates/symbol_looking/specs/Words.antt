-- The words of the clauses, from one place.
pub use Rattle.ports.specs.Ports.{faults_after, RefusedOnce}
pub use Rattle.told_lines.specs.Hearing.{Hears}
pub use Rattle.node_words.specs.Vectors.{AreWithin}
pub use Rattle.node_words.specs.Words.{named}
pub use Rattle.session_meaning.specs.Columns.{column_of}
pub use Rattle.session_meaning.specs.Effects.{told_by, wave_by}
pub use Rattle.netlist.specs.Words.{node_of, IsCircuit}
pub use Rattle.session_meaning.specs.Sinks.{faults_applied}
pub use Rattle.symbol_stage.specs.Stages.{columns_on, states_in}
pub use Rattle.symbol_meaning.specs.Merging.{AreMerged}
pub use Rattle.symbol_meaning.specs.Told.{Shown}
pub use Rattle.symbol_told.specs.Lines.{told_seen}
