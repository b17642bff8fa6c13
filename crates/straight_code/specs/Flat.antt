-- Code in a dense form: all that an instruction can read stands in one array, and an instruction is a kind and two places of it.
use Rattle.std.specs.Prelude.{◌≡◌, ℕ, ◌+◌, ◌*◌, Bool, true, false, not, ◌&&◌, ◌||◌, List, [], ◌∷◌, ◌++◌, map, slice_index_or}
use Rattle.ternary.specs.declared.tern.Tern.{Tern}
use Rattle.ternary.specs.Tern.{may_one, may_zero}
use Rattle.straight_code.specs.declared.code.Operand.{Operand}
use Rattle.straight_code.specs.declared.code.Operand.TheVariants.{Constant, High, Low, Earlier}
use Rattle.straight_code.specs.declared.code.Instruction.{Instruction}
use Rattle.straight_code.specs.declared.code.Instruction.TheVariants.{Not, And, Or}
use Rattle.straight_code.specs.declared.code.Output.{Output}
use Rattle.straight_code.specs.declared.flat.StepKind.{StepKind}
use Rattle.straight_code.specs.declared.flat.StepKind.TheVariants as kind
use Rattle.straight_code.specs.declared.flat.FlatStep.{FlatStep}
use Rattle.straight_code.specs.declared.flat.FlatOutput.{FlatOutput}
use Rattle.straight_code.specs.declared.flat.FlatCode.{FlatCode}
use Rattle.straight_code.specs.Code.{settled}

-- the place of an operand: the constants stand first, then both rails of each input, then the results
abbrev pub place_of : ℕ → Operand → ℕ
place_of inputs (Constant false) = 0
place_of inputs (Constant true) = 1
place_of inputs (High j) = 2 + 2 * j
place_of inputs (Low j) = 3 + 2 * j
place_of inputs (Earlier k) = 2 + 2 * inputs + k

-- an instruction over the places
abbrev pub step_of : ℕ → Instruction → FlatStep
step_of inputs (Not a) = record { kind = kind.Not; a = place_of inputs a; b = place_of inputs a }
step_of inputs (And a b) = record { kind = kind.And; a = place_of inputs a; b = place_of inputs b }
step_of inputs (Or a b) = record { kind = kind.Or; a = place_of inputs a; b = place_of inputs b }

-- an output over the places
abbrev pub pair_of : ℕ → Output → FlatOutput
pair_of inputs output = record { hi = place_of inputs output.hi; lo = place_of inputs output.lo }

-- the dense form of these instructions and outputs
pub record IsFlat (inputs : ℕ) (instructions : List Instruction) (outputs : List Output) (flat : FlatCode) : Type 0 where
  pub steps : flat.steps.items ≡ map (step_of inputs) instructions
  pub pairs : flat.outputs.items ≡ map (pair_of inputs) outputs

-- both rails of each state, in order
abbrev pub rails : List Tern → List Bool
rails [] = []
rails (state ∷ states) = may_one state ∷ may_zero state ∷ rails states

-- the array, for these states of the inputs and these results
abbrev pub flat_values : List Tern → List Bool → List Bool
flat_values input done = (false ∷ true ∷ rails input) ++ done

-- what stands at a place
abbrev pub value_of : List Bool → ℕ → Bool
value_of values place = slice_index_or values place false

-- what an instruction of this kind gives of two values
abbrev pub kind_value : StepKind → Bool → Bool → Bool
kind_value kind.Not a b = not a
kind_value kind.And a b = a && b
kind_value kind.Or a b = a || b

-- the result of an instruction
abbrev pub step_value : List Bool → FlatStep → Bool
step_value values step = kind_value step.kind (value_of values step.a) (value_of values step.b)

-- the state of an output
abbrev pub pair_value : List Bool → FlatOutput → Tern
pair_value values pair = settled (value_of values pair.hi) (value_of values pair.lo)
