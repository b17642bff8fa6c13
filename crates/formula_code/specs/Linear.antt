-- What it is for code to mean formulas.
use Rattle.std.specs.Prelude.{◌≡◌, ℕ, Bool, List, length, Some, slice_get}
use Rattle.ternary.specs.declared.tern.Tern.{Tern}
use Rattle.bool_pool.specs.declared.gate.Gate.{Gate}
use Rattle.bool_pool.specs.declared.gate.Rails.{Rails}
use Rattle.bool_pool.specs.Value.{value_at}
use Rattle.dual_rail.specs.Variables.{AreVariables}
use Rattle.straight_code.specs.declared.code.Output.{Output}
use Rattle.straight_code.specs.Code.{CodeData, operand_value, results}

-- the operands of an output have the values of a pair of formulas
pub record HasValues (gates : List Gate) (vars : ℕ → Bool) (rails : Rails) (input : List Tern) (done : List Bool) (output : Output) : Type 0 where
  pub hi : operand_value input done output.hi ≡ value_at gates vars rails.hi.place
  pub lo : operand_value input done output.lo ≡ value_at gates vars rails.lo.place

-- in every state of the inputs, under its variables, each output has the values of its pair of formulas
abbrev pub Means : List Gate → List Rails → CodeData → Type 0
Means gates outs code =
    (input : List Tern) (vars : ℕ → Bool) → length input ≡ code.inputs → AreVariables input vars →
    (k : ℕ) (rails : Rails) (output : Output) → slice_get outs k ≡ Some rails → slice_get code.outputs k ≡ Some output →
    HasValues gates vars rails input (results input code.instructions) output
