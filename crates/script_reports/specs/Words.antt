-- The words of the clauses, from one place.
pub use Rattle.netlist.specs.Circuits.{IsCircuit}
pub use Rattle.netlist.specs.Names.{node_of}
pub use Rattle.switch_paths.specs.Graphs.{nodes}
pub use Rattle.run_ends.specs.Answers.{plain_answer}
pub use Rattle.run_ends.specs.Ends.{IsTold, IsToldBy}
pub use Rattle.run_ends.specs.Stops.{faults_written, IsRefusedOnce}
pub use Rattle.script_meaning.specs.Halts.{HaltsAt}
pub use Rattle.script_meaning.specs.Runs.{plain_reading}
pub use Rattle.script_meaning.specs.Shown.{SeesAll}
pub use Rattle.script_reports.specs.Answers.{IsSampleSummary, IsSummary}
pub use Rattle.script_reports.specs.Covered.{IsCovered}
pub use Rattle.script_reports.specs.Covering.{IsHaltCovered, TellsNotes}
pub use Rattle.script_reports.specs.Explaining.{hear_nothing, AreGroupsOf, IsHaltExplained, IsHaltRefused, TellsSize}
pub use Rattle.script_reports.specs.Reasoned.{ExplainsNode, ExplainsRail, IsExplained, IsReasoned}
pub use Rattle.script_reports.specs.Summaries.{IsBlank, IsSummedUp}
pub use Rattle.session_meaning.specs.Sessions.{IsReady}
pub use Rattle.sim_read.specs.Meaning.{netlist_of}
pub use Rattle.told_lines.specs.Sums.{counted, summary_of}
pub use Rattle.printed_lines.specs.Lines.{summary_line_of}
