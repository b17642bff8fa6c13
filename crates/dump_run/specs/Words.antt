-- The words of other crates that the clauses of this one cite, from one place.
pub use Rattle.netlist.specs.Circuits.{IsCircuit}
pub use Rattle.script_lang.specs.Forms.{IsFormed}
pub use Rattle.run_ends.specs.Ends.{IsToldBy}
pub use Rattle.run_ends.specs.Stops.{IsRefusedOnce, faults_written}
pub use Rattle.wave_dump.specs.Writing.{first_sheet}
pub use Rattle.session_meaning.specs.Sessions.{IsHeldSession, IsReady}
