-- The words of the clauses, from one place.
pub use Rattle.ternary.specs.Tern.{may_one, may_zero}
pub use Rattle.switch_paths.specs.Switching.{state_at}
pub use Rattle.straight_code.specs.Code.{results, code_value, settled}
pub use Rattle.straight_code.specs.Flat.{flat_values, step_value}
