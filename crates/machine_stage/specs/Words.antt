-- The words of other crates that the clauses of this one cite, from one place.
pub use Rattle.ternary.specs.Counts.{raised}
pub use Rattle.switch_paths.specs.Graphs.{nodes, IsWired}
pub use Rattle.switch_paths.specs.Rails.{IsRailed, IsSound}
pub use Rattle.switch_paths.specs.Step.{IsStep}
pub use Rattle.switch_paths.specs.declared.TheConstants.{RAILS}
pub use Rattle.channel_groups.specs.Changes.{undo}
pub use Rattle.settling.specs.Moved.{ListsChanges}
pub use Rattle.settling.specs.Passing.{SteppingThrough}
pub use Rattle.settling.specs.Settling.{Settles}
pub use Rattle.group_analysis.specs.Using.{used_texts}
pub use Rattle.analysis_cache.specs.Keeping.{texts_of, IsGrown}
pub use Rattle.circuit_texts.specs.Building.{Builds, IsCutOff}
pub use Rattle.circuit_texts.specs.Sizes.{TellsRefused}
pub use Rattle.column_stage.specs.Columns.{AreAmong}
pub use Rattle.column_stage.specs.Seeing.{PhaseThrough, SeesStates}
pub use Rattle.machine_parts.specs.Parts.{has_members}
pub use Rattle.machine_laws.specs.Editing.{with_new_nodes, Edits}
pub use Rattle.machine_laws.specs.Fitting.{FitsGraph, Covers}
pub use Rattle.machine_laws.specs.Machines.{Advances, IsAtRest}
pub use Rattle.unit_step.specs.Listing.{nodes_told}
pub use Rattle.unit_step.specs.declared.editing.TheConstants.{NEW_NODES}
