-- The words of the clauses, from one place.
pub use Rattle.switch_paths.specs.Words.{state_at}
pub use Rattle.good_run.specs.Words.{state_before}
pub use Rattle.run_beside.specs.Words.{IsReplacement}
pub use Rattle.machine_parts.specs.Words.{AreAgreed, IsMarked, IsTaken}
pub use Rattle.beside.specs.Fitting.{FitsBeside}
pub use Rattle.beside.specs.Phases.{IsPhaseOf}
pub use Rattle.unit_step.specs.Beside.{AdvancesBeside, KeepsPartsApart}
