-- The words of other crates that the clauses of this one cite, from one place.
pub use Rattle.ternary.specs.declared.tern.Tern.TheVariants.{Zero, One, Unk}
pub use Rattle.switch_paths.specs.Words.{GraphData, nodes, state_at, IsRailed, IsSound, IsStep, IsWired}
pub use Rattle.switch_paths.specs.declared.TheConstants.{RAILS}
pub use Rattle.settling.specs.declared.settling.Settled.{Settled}
pub use Rattle.settling.specs.declared.settling.TheConstants.{MOST_LIMIT}
pub use Rattle.column_stage.specs.Columns.{AreAmong, AreSound, with_new_nodes}
pub use Rattle.column_stage.specs.declared.TheConstants.{NEW_NODES}
pub use Rattle.column_machines.specs.Columns.{column_states, HasStates}
pub use Rattle.column_machines.specs.Editing.{GrowsWords}
pub use Rattle.column_machines.specs.Making.{spare_of}
pub use Rattle.column_machines.specs.Moving.{columns_of, highs_of, lows_of, last_in, spare_in, CanFollow, CoversInColumns, FitsInColumns, IsKeptByColumns}
pub use Rattle.column_machines.specs.Running.{AreColumns}
pub use Rattle.column_machines.specs.Words.{texts_of, undo, used_texts, Builds, GroupTextData, IsCutInColumns, IsCutOff, IsGrown, Settles, TellsRefused}
