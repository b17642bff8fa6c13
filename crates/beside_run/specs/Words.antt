-- The words of the clauses, from one place.
pub use Rattle.vicinity.specs.NodeSets.{IsIn}
pub use Rattle.switch_paths.specs.Words.{state_at, IsSound}
pub use Rattle.machine_parts.specs.Words.{AreAgreed}
pub use Rattle.good_run.specs.Words.{state_before}
pub use Rattle.beside.specs.Fitting.{FitsBeside}
pub use Rattle.good_phases.specs.Phases.{IsBeat}
