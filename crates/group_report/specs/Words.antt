-- The words of other crates that the clauses of this one cite, from one place.
pub use Rattle.channel_groups.specs.Grouping.{IsId}
pub use Rattle.group_meaning.specs.Groups.{AreGroups, IsGroup, id_of}
pub use Rattle.switch_paths.specs.Graphs.{nodes}
pub use Rattle.printed_lines.specs.Lines.{names_after}
pub use Rattle.netlist.specs.Circuits.{called}
pub use Rattle.ports.specs.Ports.{RefusedOnce, faults_after}
pub use Rattle.ports.specs.Sending.{WritesPart}
