-- The words of the clauses, from one place.
pub use Rattle.group_text.specs.Texts.{GroupTextData}
pub use Rattle.netlist.specs.Names.{node_of}
pub use Rattle.ports.specs.Ports.{faults_after}
pub use Rattle.run_ends.specs.Stops.{faults_read, faults_written}
pub use Rattle.talk_run.specs.Answers.{mind_of, ExplainsName, IsObeyed, Replies, TalkMind}
pub use Rattle.talk_run.specs.Asking.{asked_seen, echo_line}
pub use Rattle.talk_run.specs.Talking.{broken_stop, TalksIn}
pub use Rattle.talk_run.specs.Telling.{said_fault, Speaks, Tries}
pub use Rattle.printed_lines.specs.Faults.{fault_line_of}
pub use Rattle.ternary.specs.Counts.{raised}
