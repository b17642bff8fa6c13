-- The words of the clauses, from one place.
pub use Rattle.settling.specs.Settling.{Settles}
pub use Rattle.channel_groups.specs.Changes.{undo}
pub use Rattle.analysis_cache.specs.Keeping.{texts_of, IsGrown}
pub use Rattle.group_text.specs.Texts.{GroupTextData}
pub use Rattle.group_analysis.specs.Using.{used_texts}
pub use Rattle.circuit_texts.specs.Sizes.{TellsRefused}
pub use Rattle.column_stage.specs.Standing.{IsCutInColumns}
pub use Rattle.circuit_texts.specs.Building.{Builds, IsCutOff}
pub use Rattle.word_columns.specs.Columns.{is_in_column}
pub use Rattle.machine_parts.specs.Marking.{MarksAll}
pub use Rattle.vicinity.specs.NodeSets.{IsIn}
pub use Rattle.unit_step.specs.Listing.{nodes_told}
pub use Rattle.ternary.specs.Counts.{raised}
pub use Rattle.switch_paths.specs.Words.{nodes, IsWired, IsStep, GraphData}
pub use Rattle.switch_paths.specs.declared.TheConstants.{RAILS}
pub use Rattle.settling.specs.Settling.{IsJoinStep, StaysOrBecomesX}
pub use Rattle.settling.specs.declared.settling.Settled.{Settled}
pub use Rattle.settling.specs.declared.settling.TheConstants.{MOST_LIMIT}
pub use Rattle.circuit_texts.specs.Sizes.{AllFit}
pub use Rattle.machine_parts.specs.Stepping.{Concerns}
pub use Rattle.machine_parts.specs.Words.{Stands, IsMarked, count_marked, marked_sum, members_of}
pub use Rattle.machine_parts.specs.declared.part.MachinePart.{MachinePart}
pub use Rattle.part_lists.specs.Growing.{AddsMarked}
pub use Rattle.machine_laws.specs.Words.{Covers, Edits, IsKeptBy, AreSeated, FitsGraph, HasLast}
pub use Rattle.unit_step.specs.Columns.{GivesWords}
pub use Rattle.unit_step.specs.declared.editing.TheConstants.{NEW_NODES}
