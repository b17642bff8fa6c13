-- The words of the clauses, from one place.
pub use Rattle.circuit_texts.specs.Sizes.{TellsRefused}
pub use Rattle.run_ends.specs.Ends.{status_of}
pub use Rattle.run_ends.specs.Stops.{faults_written, IsRefusedOnce}
pub use Rattle.script_lang.specs.Forms.{IsFormed}
pub use Rattle.script_meaning.specs.Ends.{TellsRun}
pub use Rattle.script_meaning.specs.Halts.{IsCutShort, TellsCutShort, TellsHalt, TellsRefusal}
pub use Rattle.script_meaning.specs.Runs.{plain_reading, status_told, Asks, IsSound, Reading}
pub use Rattle.script_meaning.specs.Shown.{SeesAll, SeesBehind, SeesLine}
pub use Rattle.script_meaning.specs.Turns.{turn_after, TakesTurn}
pub use Rattle.session_meaning.specs.Passing.{PassesThrough}
pub use Rattle.session_meaning.specs.Sessions.{IsReady}
pub use Rattle.session_meaning.specs.Sinks.{faults_applied}
