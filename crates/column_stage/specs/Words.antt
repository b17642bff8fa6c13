-- The words of the clauses, from one place.
pub use Rattle.column_stage.specs.Acts.{Act, Reserved, Edited, Built}
pub use Rattle.column_stage.specs.Columns.{AreAmong, AreSound, with_new_nodes}
pub use Rattle.column_stage.specs.Edits.{IsUndone}
pub use Rattle.column_stage.specs.Moving.{MovesColumns}
pub use Rattle.column_stage.specs.Truths.{KeepsGiven}
pub use Rattle.ternary.specs.declared.tern.Tern.{Tern}
pub use Rattle.switch_paths.specs.Graphs.{GraphData, nodes}
pub use Rattle.switch_paths.specs.Rails.{IsRailed}
pub use Rattle.group_text.specs.Texts.{GroupTextData}
pub use Rattle.group_analysis.specs.Using.{used_texts}
pub use Rattle.analysis_cache.specs.Keeping.{texts_of}
pub use Rattle.circuit_texts.specs.Sizes.{TellsRefused}
pub use Rattle.circuit_texts.specs.Building.{Builds}
pub use Rattle.switch_paths.specs.Step.{IsStep}
pub use Rattle.column_settling.specs.Together.{SettleTogether}
