-- The words of the clauses, from one place.
pub use Rattle.switch_paths.specs.Words.{nodes, IsRailed, IsStep}
pub use Rattle.analysis_cache.specs.Keeping.{texts_of}
pub use Rattle.circuit_texts.specs.Sizes.{TellsRefused}
pub use Rattle.circuit_texts.specs.Building.{Builds}
pub use Rattle.column_stage.specs.Standing.{IsCutInColumns}
pub use Rattle.column_stage.specs.Columns.{AreSound}
pub use Rattle.truth_makers.specs.Makers.{columns_in, function_holds, IsFunctionOf, IsSpent}
pub use Rattle.truth_machine.specs.Gears.{IsGear}
pub use Rattle.switch_paths.specs.Graphs.{GraphData}
pub use Rattle.group_text.specs.Texts.{GroupTextData}
pub use Rattle.formula_functions.specs.Tables.{named_under, table_of, AreInside}
pub use Rattle.formula_functions.specs.Truths.{truth_of}
pub use Rattle.truth_makers.specs.Expecting.{state_of_truth, IsMissed}
pub use Rattle.truth_makers.specs.Valuations.{valuation_of}
pub use Rattle.truth_machine.specs.Symbols.{MakesMore}
pub use Rattle.truth_parts.specs.Columns.{AreColumns, HasStates}
pub use Rattle.truth_machine.specs.Moving.{PlacesTruths}
pub use Rattle.column_stage.specs.Truths.{KeepsGiven}
