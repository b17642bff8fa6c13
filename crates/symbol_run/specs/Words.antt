-- The words of the clauses, from one place.
pub use Rattle.ports.specs.Sending.{WritesPart}
pub use Rattle.run_ends.specs.Stops.{faults_written, IsRefusedOnce}
pub use Rattle.session_meaning.specs.Sessions.{SessionData}
pub use Rattle.symbol_meaning.specs.Readings.{valuations_of}
pub use Rattle.symbol_meaning.specs.Scripts.{before_stop, read_of, stop_of, variables_of}
