-- The words of the clauses, from one place.
pub use Rattle.word_settling.specs.Settling.{counted, none_yet, Joins}
pub use Rattle.word_columns.specs.Columns.{is_in_column}
pub use Rattle.settling.specs.Settling.{IsJoinStep, Settles, StaysOrBecomesX, Stepping}
pub use Rattle.switch_paths.specs.Graphs.{GraphData}
pub use Rattle.switch_paths.specs.Step.{IsStep}
