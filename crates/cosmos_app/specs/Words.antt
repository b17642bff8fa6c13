-- The words of other crates that the clauses of this one cite, from one place.
pub use Rattle.ports.specs.Ports.{faults_after}
pub use Rattle.ports.specs.Taken.{TakesFiles}
pub use Rattle.netlist.specs.Circuits.{IsCircuit, HasVisibleNames}
pub use Rattle.run_ends.specs.Ends.{IsUntouched, IsToldBy, IsTold, status_after}
pub use Rattle.run_ends.specs.Stops.{faults_read, faults_written, IsRefusedOnce}
pub use Rattle.circuit_files.specs.Starts.{StartsAtMost, StartsFile}
pub use Rattle.circuit_files.specs.Wholes.{ReadsWhole}
pub use Rattle.command_line.specs.Requests.{Simulate, over, report_seen, alone_seen, names_of, question_seen}
pub use Rattle.dump_run.specs.Dumped.{IsDumped}
pub use Rattle.fault_meaning.specs.Judging.{AreJudgedFaults}
