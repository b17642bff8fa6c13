-- The words of the clauses, from one place.
pub use Rattle.ternary.specs.Tern.{may_one, may_zero}
pub use Rattle.switch_paths.specs.Graphs.{GraphData}
pub use Rattle.switch_paths.specs.Switching.{state_at}
pub use Rattle.switch_paths.specs.Words.{nodes, IsWired}
pub use Rattle.settling.specs.Settling.{StaysOrBecomesX}
pub use Rattle.formula_functions.specs.Tables.{AreInside, named_under}
pub use Rattle.column_settling.specs.Together.{SettleTogether}
pub use Rattle.machine_parts.specs.Parts.{ReadsAt, IsStale, AreApart}
pub use Rattle.formula_functions.specs.Truths.{truth_of}
pub use Rattle.decision_graph.specs.Meaning.{holds}
pub use Rattle.truth_makers.specs.Expecting.{IsMissed}
pub use Rattle.truth_columns.specs.Columns.{AreKept, HasColumn}
pub use Rattle.machine_laws.specs.Words.{FitsGraph, AreSeated}
pub use Rattle.truth_parts.specs.Columns.{AreColumns, HasStates}
pub use Rattle.truth_parts.specs.Fitting.{HasSound}
