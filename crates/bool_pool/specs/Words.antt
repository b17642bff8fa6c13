-- The words of formulas and pools that clauses cite, from one place.
pub use Rattle.bool_pool.specs.Gate.{gate_at, constant_gate, IsOperand, IsVariable, Extends}
pub use Rattle.bool_pool.specs.Value.{value_at}
pub use Rattle.bool_pool.specs.Made.{IsLeaf, IsFormed}
pub use Rattle.bool_pool.specs.Pairs.{AreReaching, ReachAtMost, HasVariablesBelow, ReachExactly}
