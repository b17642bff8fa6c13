-- The words of code for formulas that clauses cite, from one place.
pub use Rattle.formula_code.specs.Linear.{Means}
pub use Rattle.formula_code.specs.Lowering.{rail_of, operand_at, with_gate, gate_operand, output_of, AreNoted, AreLowered}
