-- The words of straight-line code that clauses cite, from one place.
pub use Rattle.straight_code.specs.Code.{CodeData, IsCode, IsOutput, IsAllowed, AreAllowed, results, code_value, settled}
pub use Rattle.straight_code.specs.Parts.{AreMembers, IsPart}
pub use Rattle.straight_code.specs.Flat.{flat_values, kind_value, step_value}
