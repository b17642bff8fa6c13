-- The words of the clauses, from one place.
pub use Rattle.fault_meaning.specs.Judging.{named_entry, verdict_line, AreJudgedFaults, IsJudgement}
pub use Rattle.fault_meaning.specs.Runnings.{HasTraced, IsTraced, StandsAtStart, TellsJudged}
pub use Rattle.fault_meaning.specs.Traces.{commands_under, start_with, AreDone}
pub use Rattle.fault_sim.specs.Benches.{JudgesBy}
pub use Rattle.fault_sim.specs.Changes.{commands_in}
pub use Rattle.fault_sim.specs.Faults.{IsFault}
pub use Rattle.fault_sim.specs.Masks.{masked_reading}
pub use Rattle.netlist.specs.Circuits.{called, HasVisibleNames, IsCircuit}
pub use Rattle.ports.specs.Sending.{WritesPart}
pub use Rattle.run_ends.specs.Ends.{IsToldBy}
pub use Rattle.run_ends.specs.Stops.{faults_written, IsRefusedOnce}
pub use Rattle.script_lang.specs.Forms.{IsFormed}
pub use Rattle.script_meaning.specs.Turns.{TakesTurn}
pub use Rattle.session_meaning.specs.Outcomes.{Does}
pub use Rattle.session_meaning.specs.Refusals.{refusal_of}
pub use Rattle.session_meaning.specs.Sessions.{start_of, IsReady}
pub use Rattle.told_lines.specs.Noting.{states_of}
pub use Rattle.printed_lines.specs.Verdicts.{faults_line_of}
