-- From formulas and the code that means them to code that means a text.
use Rattle.std.proofs.Common.{◌≡◌, ℕ, ◌+◌, ◌*◌, ◌/◌, ◌%◌, ◌<◌, ◌≤◌, ◌==◌, Bool, true, false, List, length, refl, sym, ap₂, ◌∙◌, subst, true≢false, arith}
use Rattle.std.specs.Prelude.{◌↔◌, All, slice_index_or, if◌then◌else◌}
use Rattle.std.proofs.lemmas.List.{get_or-map}
use Rattle.std.proofs.lemmas.List.Elements.{All-contains_itself}
use Rattle.std.proofs.lemmas.Option.{slice_get-get_or}
use Rattle.ternary.specs.declared.tern.Tern.{Tern}
use Rattle.ternary.specs.declared.tern.Tern.TheVariants.{Zero, One, Unk}
use Rattle.ternary.specs.Tern.{may_one, may_zero}
use Rattle.switch_paths.specs.Switching.{state_at}
use Rattle.switch_paths.specs.Graphs.{GraphData, nodes}
use Rattle.switch_paths.specs.Step.{Responds, IsResponse}
use Rattle.switch_paths.proofs.ExistingSteps.{exists}
use Rattle.bool_pool.specs.declared.gate.Gate.{Gate}
use Rattle.bool_pool.specs.declared.gate.Id.{Id}
use Rattle.bool_pool.specs.declared.gate.Rails.{Rails}
use Rattle.bool_pool.specs.Pairs.{IsOperationOf, ReachAtMost, ReachExactly}
use Rattle.dual_rail.specs.Variables.{AreVariables}
use Rattle.group_text.specs.Texts.{GroupTextData, IsText}
use Rattle.straight_code.specs.declared.code.Operand.TheVariants.{Constant}
use Rattle.straight_code.specs.declared.code.Output.{Output}
use Rattle.straight_code.specs.Code.{CodeData, operand_value, results, settled, output_state, code_value}
use Rattle.formula_code.specs.Linear.{HasValues, Means}
use Rattle.group_analysis.specs.Meaning.{HasConstants, bound_of, MeansText}
use Rattle.node_elimination.specs.Analysis.{AreRailsOfResponse, AreResponses}

-- the truth value that a state gives a variable: an even one says whether its node may be 1, an odd one whether it may be 0
abbrev variable_of : List Tern → ℕ → Bool
variable_of state v = if v % 2 == 0 then may_one (state_at state (v / 2)) else may_zero (state_at state (v / 2))

-- a variable by its node, and by what is left of its half
variable_is : (state : List Tern) (v node left : ℕ) → v % 2 ≡ left → v / 2 ≡ node →
    variable_of state v ≡ (if left == 0 then may_one (state_at state node) else may_zero (state_at state node))
variable_is state v node left odd half = ap₂ (λ r n. if r == 0 then may_one (state_at state n) else may_zero (state_at state n)) odd half

-- these are the variables of the state
AreVariables-state : (state : List Tern) → AreVariables state (variable_of state)
AreVariables-state state = record {
  one = λ node inside. variable_is state (2 * node) node 0 (omega arith) (omega arith);
  zero = λ node inside. variable_is state (2 * node + 1) node 1 (omega arith) (omega arith);
}

-- a steady state has a rail, so some path answers for one
answered : (g : GraphData) (state : List Tern) (node : ℕ) (answer : Tern) → IsResponse g state node answer →
    (Responds may_one g state node → false ≡ true) → (Responds may_zero g state node → false ≡ true) → false ≡ true
answered g state node Zero response no_one no_zero = no_zero (response.zero.0 refl)
answered g state node One response no_one no_zero = no_one (response.one.0 refl)
answered g state node Unk response no_one no_zero = no_one (response.one.0 refl)

-- where two truth values are the rails of a node's steady state, the state with these rails is that steady state
IsResponse-settled : (g : GraphData) (state : List Tern) (node : ℕ) (one zero : Bool) (answer : Tern) →
    IsResponse g state node answer →
    (one ≡ true) ↔ Responds may_one g state node → (zero ≡ true) ↔ Responds may_zero g state node →
    IsResponse g state node (settled one zero)
IsResponse-settled g state node true true answer response of_one of_zero = record { one = of_one; zero = of_zero }
IsResponse-settled g state node true false answer response of_one of_zero = record { one = of_one; zero = of_zero }
IsResponse-settled g state node false true answer response of_one of_zero = record { one = of_one; zero = of_zero }
IsResponse-settled g state node false false answer response of_one of_zero =
    absurd (true≢false (sym (answered g state node answer response of_one.1 of_zero.1)))

module _ (text : GroupTextData) (is_text : IsText text) (pool : List Gate) (answers : List Rails)
    (each_answer : length answers ≡ text.members) (responses : AreResponses text.graph text.constants pool answers)
    (few : ReachAtMost pool answers (bound_of text.graph text.members)) where
  module _ (code : CodeData) (inputs : code.inputs ≡ nodes text.graph) (outputs : length code.outputs ≡ length answers)
      (means : Means pool answers code) (exact : ReachExactly pool answers (length code.instructions)) where
    -- an output is the steady state of its member
    output_responds : (state : List Tern) → length state ≡ nodes text.graph → HasConstants text.constants state → (k : ℕ) →
        k < text.members →
        IsResponse text.graph state k (state_at (code_value code state) k)
    output_responds state count given k below =
        let d : Id = record { place = 0 } in
        let rails : Rails = slice_index_or answers k (record { hi = d; lo = d }) in
        let none : Output = record { hi = Constant false; lo = Constant false } in
        let output : Output = slice_index_or code.outputs k none in
        let done = results state code.instructions in
        let vars = variable_of state in
        let response : AreRailsOfResponse text.graph state pool vars k rails =
        responses state vars (record { count = count; given = given; variables = AreVariables-state state }) k rails
        (slice_get-get_or answers k (record { hi = d; lo = d }) (omega (arith, each_answer))) in
        let values : HasValues pool vars rails state done output =
        means state vars (count ∙ sym inputs) (AreVariables-state state) k rails output
        (slice_get-get_or answers k (record { hi = d; lo = d }) (omega (arith, each_answer)))
        (slice_get-get_or code.outputs k none (omega (arith, each_answer, outputs))) in
        let one = operand_value state done output.hi in
        let zero = operand_value state done output.lo in
        let step = exists text.graph is_text.wired state in
        let settles : IsResponse text.graph state k (settled one zero) =
        IsResponse-settled text.graph state k one zero (state_at step.0 k) (step.1.each k (omega (arith, is_text.members)))
        ((λ set. response.one.0 (sym values.hi ∙ set)), (λ responds. values.hi ∙ response.one.1 responds))
        ((λ set. response.zero.0 (sym values.lo ∙ set)), (λ responds. values.lo ∙ response.zero.1 responds)) in
        subst (IsResponse text.graph state k)
        (sym (get_or-map (output_state state done) code.outputs k none Zero (omega (arith, each_answer, outputs)))) settles

    -- each instruction is that of an operation that the formulas reach
    all_counted : All (IsOperationOf pool answers) exact.places
    all_counted k d inside = (exact.each (slice_index_or exact.places k d)).0 (All-contains_itself exact.places k d inside)

    -- the code means the text
    pub MeansText-made : MeansText text code
    MeansText-made = record {
      inputs = inputs;
      outputs = outputs ∙ each_answer;
      responses = output_responds;
      few = subst (λ n. n ≤ bound_of text.graph text.members) exact.number (few exact.places exact.apart all_counted);
    }
