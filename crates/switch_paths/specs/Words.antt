-- The words of graphs, switches, paths and steps that clauses cite, from one place.
pub use Rattle.switch_paths.specs.Switching.{state_by, is_closed, is_live, state_at}
pub use Rattle.switch_paths.specs.Graphs.{GraphData, nodes, level_of, is_storage_level, IsStorage, place_at, Fits, FitsPlace, IsWired}
pub use Rattle.switch_paths.specs.Path.{Stand, at_root, IsBlocked}
pub use Rattle.switch_paths.specs.Step.{IsStep}
pub use Rattle.switch_paths.specs.Laws.{IsJoin}
pub use Rattle.switch_paths.specs.Spread.{rail_of}
pub use Rattle.switch_paths.specs.Plain.{AreStrongest}
pub use Rattle.switch_paths.specs.Rails.{IsRailed, IsSound}
