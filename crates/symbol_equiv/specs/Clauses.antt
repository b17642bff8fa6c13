-- The words of the clauses, from one place.
pub use Rattle.symbol_meaning.specs.Scripts.{before_stop}
pub use Rattle.symbol_told.specs.Noting.{no_notes}
pub use Rattle.symbol_run.specs.Halts.{StopsAmong}
pub use Rattle.symbol_run.specs.Turns.{StopsAt}
pub use Rattle.symbol_comparing.specs.Told.{AreValuationsOf}
