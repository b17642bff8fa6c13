-- The words of the clauses, from one place.
pub use Rattle.switch_paths.specs.Switching.{state_at}
pub use Rattle.straight_code.specs.Code.{code_value}
pub use Rattle.truth_columns.specs.Columns.{AreKept, HasColumn}
pub use Rattle.machine_parts.specs.Words.{Stands, IsMarked, count_marked, marked_sum, members_of}
