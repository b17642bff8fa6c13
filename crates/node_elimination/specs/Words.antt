-- The words of elimination that clauses cite, from one place.
pub use Rattle.node_elimination.specs.Solution.{right_past}
pub use Rattle.node_elimination.specs.Levels.{IsUnused}
pub use Rattle.node_elimination.specs.Laws.{ReachedByPaths, DrivenByPaths, EliminationKeepsTheSolution}
pub use Rattle.node_elimination.specs.Growth.{AreFormulas, AreGrown, Grows}
pub use Rattle.node_elimination.specs.Equations.{IsSquare, formulas_of, IsWhole, right_at, is_left, left_count, edge, right}
pub use Rattle.node_elimination.specs.Elimination.{Moves, PassesEdge, PassesEdges, PassesRow, PutsRight, PutsRights, PassesRows, with_next, Gathers}
pub use Rattle.node_elimination.specs.Elimination.{Solves}
pub use Rattle.node_elimination.specs.LevelSystem.{value_of, AddsLink, AddsLinks, AllLeft, IsFresh, IsConstant, reached_base, IsPlace, link_formulas}
pub use Rattle.node_elimination.specs.LevelSystem.{AreLinks, root_base, SolvesLinks, system_cost}
pub use Rattle.node_elimination.specs.Analysis.{HasMembers, IsAssignment, AreResponses}
pub use Rattle.node_elimination.specs.Inputs.{IsRail, AreRails, IsPass, ArePasses, input_formulas, HaveInputs, ShowsState}
pub use Rattle.node_elimination.specs.Descent.{driven_formulas, level_formulas, HaveDriven, HaveLevels, ReachAt, DriveAt, DriveDown, StepDown}
pub use Rattle.node_elimination.specs.Descent.{AreNegations, drives_cost, level_cost, ArePairs}
pub use Rattle.node_elimination.specs.Holding.{ids_of, joined}
pub use Rattle.node_elimination.specs.HeldTable.{shown, lists_of}
