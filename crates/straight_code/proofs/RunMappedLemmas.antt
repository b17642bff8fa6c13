-- A run over the array: each instruction gives its result there, and each output its state.
use Rattle.std.proofs.Common.{◌≡◌, ℕ, zero, suc, ◌+◌, ◌*◌, ◌<◌, Bool, true, false, List, [], ◌∷◌, ◌++◌, length, map, take, get_or, set, All, refl, sym, ap, ◌∙◌, arith, append_assoc}
use Rattle.std.proofs.lemmas.List.{get_or-map, length-map, map_more, take_more, take_more_set, length-take-le}
use Rattle.std.proofs.lemmas.Option.{slice_get-get_or}
use Rattle.ternary.specs.declared.tern.Tern.{Tern}
use Rattle.ternary.specs.declared.tern.Tern.TheVariants.{Zero}
use Rattle.straight_code.specs.declared.code.Operand.TheVariants.{Constant}
use Rattle.straight_code.specs.declared.code.Instruction.{Instruction}
use Rattle.straight_code.specs.declared.code.Instruction.TheVariants.{Not, And, Or}
use Rattle.straight_code.specs.declared.code.Output.{Output}
use Rattle.straight_code.specs.declared.flat.StepKind.TheVariants as kind
use Rattle.straight_code.specs.declared.flat.FlatStep.{FlatStep}
use Rattle.straight_code.specs.declared.flat.FlatOutput.{FlatOutput}
use Rattle.straight_code.specs.declared.flat.FlatCode.{FlatCode}
use Rattle.straight_code.specs.Code.{AreAllowed, CodeData, IsCode, IsOutput, ReadsEarlier, instruction_value, output_state, results}
use Rattle.straight_code.specs.Flat.{step_of, pair_of, rails, flat_values, step_value, pair_value, IsFlat}
use Rattle.straight_code.proofs.FlatLemmas.{place_within, step_value-of, pair_value-of}
use Rattle.straight_code.proofs.ResultLemmas.{length-results, results-more}

-- an instruction past the last one
abbrev pub past_last : Instruction
past_last = Not (Constant false)

-- and over the places
abbrev pub no_step : FlatStep
no_step = record { kind = kind.Not; a = 0; b = 0 }

-- an output past the last one, over the places
abbrev pub no_pair : FlatOutput
no_pair = record { hi = 0; lo = 0 }

-- and as it was
abbrev pub no_output : Output
no_output = record { hi = Constant false; lo = Constant false }

-- the places that an instruction reads stand in the array
pub record IsWithin (step : FlatStep) (count : ℕ) : Type 0 where
  pub a : step.a < count
  pub b : step.b < count

-- and so do those of an output
pub record IsPairWithin (pair : FlatOutput) (count : ℕ) : Type 0 where
  pub hi : pair.hi < count
  pub lo : pair.lo < count

step_within : (input : List Tern) (done : List Bool) (instruction : Instruction) → AreAllowed (length input) (length done) instruction →
    IsWithin (step_of (length input) instruction) (2 + 2 * length input + length done)
step_within input done (Not a) allowed = record { a = place_within input done a allowed; b = place_within input done a allowed }
step_within input done (And a b) allowed = record { a = place_within input done a allowed.0; b = place_within input done b allowed.1 }
step_within input done (Or a b) allowed = record { a = place_within input done a allowed.0; b = place_within input done b allowed.1 }

module _ (input : List Tern) (instructions : List Instruction) (steps : List FlatStep) (flat : steps ≡ map (step_of (length input)) instructions)
    (reads : ReadsEarlier (length input) instructions) (k : ℕ) (inside : k < length instructions) (d : FlatStep) where
  -- the results of the instructions before this one
  abbrev before : List Bool
  before = results input (take k instructions)

  counted : length before ≡ k
  counted = length-results input (take k instructions) ∙ length-take-le k instructions (omega arith)

  step_at : get_or steps k d ≡ step_of (length input) (get_or instructions k past_last)
  step_at = ap (λ all. get_or all k d) flat ∙ get_or-map (step_of (length input)) instructions k past_last d inside

  allowed : AreAllowed (length input) (length before) (get_or instructions k past_last)
  allowed = rw counted (reads k (get_or instructions k past_last) (slice_get-get_or instructions k past_last inside))

  pub reads_within : IsWithin (get_or steps k d) (2 + 2 * length input + k)
  reads_within =
      let within = step_within input before (get_or instructions k past_last) allowed in
      rw step_at (record { a = omega (arith, within.a, counted); b = omega (arith, within.b, counted) })

  -- once its result is written, the array has the results up to it
  pub result_written : (values : List Bool) (result : Bool) → 2 + 2 * length input + k < length values →
      take (2 + 2 * length input + k) values ≡ flat_values input before →
      result ≡ step_value (take (2 + 2 * length input + k) values) (get_or steps k d) →
      take (2 + 2 * length input + (k + 1)) (set values (2 + 2 * length input + k) result) ≡ flat_values input (results input (take (k + 1) instructions))
  result_written values result room so_far is =
      let place = 2 + 2 * length input + k in
      let instruction = get_or instructions k past_last in
      let own : result ≡ instruction_value input before instruction =
      is ∙ ap (λ array. step_value array (get_or steps k d)) so_far ∙ ap (step_value (flat_values input before)) step_at
      ∙ step_value-of input before instruction allowed in
      let more : results input (take (k + 1) instructions) ≡ before ++ instruction_value input before instruction ∷ [] =
      ap (results input) (take_more instructions k past_last inside) ∙ results-more input (take k instructions) instruction in
      let next : 2 + 2 * length input + (k + 1) ≡ place + 1 = omega arith in
      ap (λ count. take count (set values place result)) next
      ∙ take_more_set values place result room
      ∙ ap (λ front. front ++ result ∷ []) so_far
      ∙ append_assoc (false ∷ true ∷ rails input) before (result ∷ [])
      ∙ ap (λ last. flat_values input (before ++ last ∷ [])) own
      ∙ ap (flat_values input) (sym more)

module _ (input : List Tern) (instructions : List Instruction) (outputs : List Output) (pairs : List FlatOutput)
    (flat : pairs ≡ map (pair_of (length input)) outputs) (allowed : All (IsOutput (length input) (length instructions)) outputs)
    (k : ℕ) (inside : k < length outputs) (d : FlatOutput) (past : Output) where
  -- the results of all instructions
  abbrev all_results : List Bool
  all_results = results input instructions

  pair_at : get_or pairs k d ≡ pair_of (length input) (get_or outputs k past)
  pair_at = ap (λ all. get_or all k d) flat ∙ get_or-map (pair_of (length input)) outputs k past d inside

  own_allowed : IsOutput (length input) (length all_results) (get_or outputs k past)
  own_allowed = rw (length-results input instructions) (allowed k past inside)

  pub pair_within : IsPairWithin (get_or pairs k d) (2 + 2 * length input + length instructions)
  pair_within =
      let counted = length-results input instructions in
      let output = get_or outputs k past in
      rw pair_at (record {
        hi = omega (arith, place_within input all_results output.hi own_allowed.hi, counted);
        lo = omega (arith, place_within input all_results output.lo own_allowed.lo, counted);
      })

  -- over the array with all results, it has its state
  pub pair_state : (array : List Bool) → array ≡ flat_values input all_results →
      pair_value array (get_or pairs k d) ≡ output_state input all_results (get_or outputs k past)
  pair_state array whole =
      ap (λ values. pair_value values (get_or pairs k d)) whole ∙ ap (pair_value (flat_values input all_results)) pair_at
      ∙ pair_value-of input all_results (get_or outputs k past) own_allowed

  -- once its state is written, out has the states up to it
  pub state_written : (array : List Bool) (out : List Tern) (state : Tern) → k < length out → array ≡ flat_values input all_results →
      take k out ≡ map (output_state input all_results) (take k outputs) → state ≡ pair_value array (get_or pairs k d) →
      take (k + 1) (set out k state) ≡ map (output_state input all_results) (take (k + 1) outputs)
  state_written array out state room whole so_far is =
      let own : state ≡ output_state input all_results (get_or outputs k past) = is ∙ pair_state array whole in
      take_more_set out k state room
      ∙ ap (λ front. front ++ state ∷ []) so_far
      ∙ ap (λ last. map (output_state input all_results) (take k outputs) ++ last ∷ []) own
      ∙ sym (map_more (output_state input all_results) outputs k past inside)

-- ---- whatever the inputs

-- there are states for any number of inputs
pub some_input : (count : ℕ) → (input : List Tern) × (length input ≡ count)
some_input zero = ([], refl)
some_input (suc count) = let rest = some_input count in (Zero ∷ rest.0, ap suc rest.1)

module _ (code : CodeData) (steps : List FlatStep) (flat : steps ≡ map (step_of code.inputs) code.instructions) (is_code : IsCode code) where
  -- there is an instruction over the places for each
  pub length-steps : length steps ≡ length code.instructions
  length-steps = ap length flat ∙ length-map code.instructions (step_of code.inputs)

  -- an instruction reads what stands before its result
  pub step_reads : (k : ℕ) → k < length code.instructions → IsWithin (get_or steps k no_step) (2 + 2 * code.inputs + k)
  step_reads k inside =
      let some = some_input code.inputs in
      let many = some.1 in
      let within = reads_within some.0 code.instructions steps (rw many flat) (rw many is_code.reads) k inside no_step in
      record { a = omega (arith, within.a, many); b = omega (arith, within.b, many) }

module _ (code : CodeData) (flat : FlatCode) (is_flat : IsFlat code.inputs code.instructions code.outputs flat) (is_code : IsCode code)
    (k : ℕ) (inside : k < length code.outputs) (pair : FlatOutput) (is_pair : pair ≡ get_or flat.outputs.items k pair) where
  -- the rails of an output stand in the array
  pub pair_reads : IsPairWithin pair (2 + 2 * code.inputs + length code.instructions)
  pair_reads =
      let some = some_input code.inputs in
      let many = some.1 in
      let within : IsPairWithin (get_or flat.outputs.items k pair) (2 + 2 * length some.0 + length code.instructions) =
      pair_within some.0 code.instructions code.outputs flat.outputs.items (rw many is_flat.pairs) (rw many is_code.outputs) k inside pair no_output in
      rw (many, ← is_pair) at within
