-- The words of other crates that the clauses of this one cite, from one place.
pub use Rattle.switch_paths.specs.Graphs.{nodes, IsStorage}
pub use Rattle.switch_paths.specs.declared.TheConstants.{RAILS, GND, VDD}
pub use Rattle.group_meaning.specs.Groups.{AreGroups, id_of}
pub use Rattle.channel_groups.specs.Grouping.{IsId}
