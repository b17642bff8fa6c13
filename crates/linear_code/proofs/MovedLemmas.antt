-- The code of a part among other code: behind other results, over the state of all nodes, it gives what it gives over the states of its inputs.
use Rattle.std.proofs.Common.{◌≡◌, ℕ, zero, suc, ◌+◌, ◌-◌, ◌<◌, ◌≤◌, Bool, false, not, List, [], ◌∷◌, ◌++◌, length, map, take, set, get_or, below_more, All, Some, slice_get, refl, sym, ap, ◌∙◌, inl, inr, arith}
use Rattle.std.specs.Prelude.{◌≢◌, slice_index, nat_eq}
use Rattle.std.specs.List.{IsDistinct, AllPairs}
use Rattle.std.proofs.lemmas.List.{append-nil, append_assoc, get_or-map, get_or-append-add, map_push, length-take-le, take_all, length-set, get_or-set_same, get_or-set_other, get_or_append_left, get_or-append_right, length-append, length-map}
use Rattle.std.proofs.Math.Seq.{take-suc}
use Rattle.std.proofs.lemmas.Bool.{cases_lt}
use Rattle.std.proofs.lemmas.Bool.Decides.{Decides-eqb}
use Rattle.std.proofs.lemmas.Map.Made.{AllPairs-from_IsDistinct}
use Rattle.std.proofs.lemmas.Option.{slice_get-get_or, slice_get_within, get_or_from_slice_get}
use Rattle.ternary.specs.declared.tern.Tern.{Tern}
use Rattle.ternary.specs.declared.tern.Tern.TheVariants.{Zero}
use Rattle.ternary.specs.Tern.{may_one, may_zero}
use Rattle.switch_paths.specs.Switching.{state_at}
use Rattle.straight_code.specs.declared.code.Operand.{Operand}
use Rattle.straight_code.specs.declared.code.Operand.TheVariants.{Constant, High, Low, Earlier}
use Rattle.straight_code.specs.declared.code.Instruction.{Instruction}
use Rattle.straight_code.specs.declared.code.Instruction.TheVariants.{Not, And, Or}
use Rattle.straight_code.specs.declared.code.Output.{Output}
use Rattle.straight_code.specs.Code.{operand_value, instruction_value, results, output_state, IsAllowed, AreAllowed, IsOutput}
use Rattle.linear_code.specs.Moved.{moved_operand, moved_instruction, moved_output, output_at, PutsOutputs}
use Rattle.straight_code.proofs.ResultLemmas.{results-more, length-results, IsAllowed-more}

-- an instruction that reads earlier results reads any that are more
pub AreAllowed-more : (inputs count more : ℕ) (instruction : Instruction) → AreAllowed inputs count instruction → count ≤ more
    → AreAllowed inputs more instruction
AreAllowed-more inputs count more (Not a) allowed longer = IsAllowed-more inputs count more a allowed longer
AreAllowed-more inputs count more (And a b) allowed longer =
    (IsAllowed-more inputs count more a allowed.0 longer, IsAllowed-more inputs count more b allowed.1 longer)
AreAllowed-more inputs count more (Or a b) allowed longer =
    (IsAllowed-more inputs count more a allowed.0 longer, IsAllowed-more inputs count more b allowed.1 longer)

-- the same of an output
pub IsOutput-more : (inputs count more : ℕ) (output : Output) → IsOutput inputs count output → count ≤ more → IsOutput inputs more output
IsOutput-more inputs count more output allowed longer = record {
  hi = IsAllowed-more inputs count more output.hi allowed.hi longer;
  lo = IsAllowed-more inputs count more output.lo allowed.lo longer;
}

-- the state of an input is that of its node
state_at-mapped : (state : List Tern) (nodes : List ℕ) (j : ℕ) → j < length nodes
    → state_at state (slice_index nodes j) ≡ state_at (map (state_at state) nodes) j
state_at-mapped state nodes j inside = sym (get_or-map (state_at state) nodes j 0 Zero inside)

-- a moved operand has over the state of all nodes the value that the operand has over the states of the inputs
operand_value-moved : (state : List Tern) (nodes : List ℕ) (front done : List Bool) (offset : ℕ) (operand : Operand)
    → offset ≡ length front → IsAllowed (length nodes) (length done) operand
    → operand_value state (front ++ done) (moved_operand nodes offset operand) ≡ operand_value (map (state_at state) nodes) done operand
operand_value-moved state nodes front done offset (Constant b) behind allowed = refl
operand_value-moved state nodes front done offset (High j) behind allowed = ap may_one (state_at-mapped state nodes j allowed)
operand_value-moved state nodes front done offset (Low j) behind allowed = ap may_zero (state_at-mapped state nodes j allowed)
operand_value-moved state nodes front done offset (Earlier k) behind allowed = rw behind (get_or-append-add front done k false)

-- the same of an instruction
instruction_value-moved : (state : List Tern) (nodes : List ℕ) (front done : List Bool) (offset : ℕ) (instruction : Instruction)
    → offset ≡ length front → AreAllowed (length nodes) (length done) instruction
    → instruction_value state (front ++ done) (moved_instruction nodes offset instruction) ≡ instruction_value (map (state_at state) nodes) done instruction
instruction_value-moved state nodes front done offset (Not a) behind allowed =
    ap not (operand_value-moved state nodes front done offset a behind allowed)
instruction_value-moved state nodes front done offset (And a b) behind allowed =
    rw (operand_value-moved state nodes front done offset a behind allowed.0, operand_value-moved state nodes front done offset b behind allowed.1)
instruction_value-moved state nodes front done offset (Or a b) behind allowed =
    rw (operand_value-moved state nodes front done offset a behind allowed.0, operand_value-moved state nodes front done offset b behind allowed.1)

-- the same of an output
pub output_state-moved : (state : List Tern) (nodes : List ℕ) (front done : List Bool) (offset : ℕ) (output : Output)
    → offset ≡ length front → IsOutput (length nodes) (length done) output
    → output_state state (front ++ done) (moved_output nodes offset output) ≡ output_state (map (state_at state) nodes) done output
output_state-moved state nodes front done offset output behind allowed =
    rw (operand_value-moved state nodes front done offset output.hi behind allowed.hi, operand_value-moved state nodes front done offset output.lo behind allowed.lo)

-- a moved operand reads nodes and results alone
IsAllowed-moved : (count done : ℕ) (nodes : List ℕ) (offset : ℕ) (operand : Operand)
    → All (λ node. node < count) nodes → IsAllowed (length nodes) done operand
    → IsAllowed count (offset + done) (moved_operand nodes offset operand)
IsAllowed-moved count done nodes offset (Constant b) below allowed = tt
IsAllowed-moved count done nodes offset (High j) below allowed = below j 0 allowed
IsAllowed-moved count done nodes offset (Low j) below allowed = below j 0 allowed
IsAllowed-moved count done nodes offset (Earlier k) below allowed = omega arith

-- the same of an instruction
AreAllowed-moved : (count done : ℕ) (nodes : List ℕ) (offset : ℕ) (instruction : Instruction)
    → All (λ node. node < count) nodes → AreAllowed (length nodes) done instruction
    → AreAllowed count (offset + done) (moved_instruction nodes offset instruction)
AreAllowed-moved count done nodes offset (Not a) below allowed = IsAllowed-moved count done nodes offset a below allowed
AreAllowed-moved count done nodes offset (And a b) below allowed =
    (IsAllowed-moved count done nodes offset a below allowed.0, IsAllowed-moved count done nodes offset b below allowed.1)
AreAllowed-moved count done nodes offset (Or a b) below allowed =
    (IsAllowed-moved count done nodes offset a below allowed.0, IsAllowed-moved count done nodes offset b below allowed.1)

-- the same of an output
pub IsOutput-moved : (count done : ℕ) (nodes : List ℕ) (offset : ℕ) (output : Output)
    → All (λ node. node < count) nodes → IsOutput (length nodes) done output
    → IsOutput count (offset + done) (moved_output nodes offset output)
IsOutput-moved count done nodes offset output below allowed = record {
  hi = IsAllowed-moved count done nodes offset output.hi below allowed.hi;
  lo = IsAllowed-moved count done nodes offset output.lo below allowed.lo;
}

-- one output more stands at its node; no other input stands for that node
pub PutsOutputs-next : (nodes : List ℕ) (offset : ℕ) (outputs : List Output) (done node : ℕ) (old new : List Output) (output : Output)
    → IsDistinct nat_eq nodes → done < length nodes → node ≡ slice_index nodes done → node < length new
    → output ≡ moved_output nodes offset (output_at outputs done)
    → PutsOutputs nodes offset outputs done old new
    → PutsOutputs nodes offset outputs (done + 1) old (set new node output)
PutsOutputs-next nodes offset outputs done node old new output apart inside is room output_is puts = record {
  count = length-set new node output ∙ puts.count;
  here = below_more _ _ earlier last;
  others = λ other free. get_or-set_other new node other output never (away other free) ∙ puts.others other (λ j before. free j (omega arith));
}
  where
    never : Output
    never = record { hi = Constant false; lo = Constant false }

    pairs : AllPairs (λ x y. x ≢ y) nodes
    pairs = AllPairs-from_IsDistinct Decides-eqb nodes apart

    earlier : (j : ℕ) → j < done → output_at (set new node output) (slice_index nodes j) ≡ moved_output nodes offset (output_at outputs j)
    earlier j before =
        let other : slice_index nodes j ≢ node = rw is (pairs j done 0 before inside) in
        get_or-set_other new node (slice_index nodes j) output never other ∙ puts.here j before

    last : output_at (set new node output) (slice_index nodes done) ≡ moved_output nodes offset (output_at outputs done)
    last = rw (← is) (get_or-set_same new node output never room ∙ output_is)

    away : (other : ℕ) → ((j : ℕ) → j < done + 1 → slice_index nodes j ≢ other) → other ≢ node
    away other free same = free done (omega arith) (sym is ∙ sym same)

-- a part's instructions, moved behind others, read nodes and earlier results alone
pub reads-moved : (count : ℕ) (nodes : List ℕ) (before instructions : List Instruction)
    → All (λ node. node < count) nodes
    → ((k : ℕ) (instruction : Instruction) → slice_get before k ≡ Some instruction → AreAllowed count k instruction)
    → ((k : ℕ) (instruction : Instruction) → slice_get instructions k ≡ Some instruction → AreAllowed (length nodes) k instruction)
    → (k : ℕ) (instruction : Instruction) → slice_get (before ++ map (moved_instruction nodes (length before)) instructions) k ≡ Some instruction
    → AreAllowed count k instruction
reads-moved count nodes before instructions below earlier reads k instruction stands =
    elim (cases_lt k (length before)) [
      | inl less ↦
          let here = sym (get_or_append_left before moved instruction k less) ∙ is in
          earlier k instruction (slice_get-get_or before k instruction less ∙ ap Some here)
      | inr more ↦
          let j = k - length before in
          let within = slice_get_within (before ++ moved) k instruction stands in
          let inside : j < length instructions =
          omega (arith, within, length-append before moved, length-map instructions (moved_instruction nodes (length before))) in
          let one = get_or instructions j past in
          let moves : moved_instruction nodes (length before) one ≡ instruction =
          sym (get_or-map (moved_instruction nodes (length before)) instructions j past instruction inside)
          ∙ sym (get_or-append_right before moved (length before) k instruction refl more) ∙ is in
          let place : length before + j ≡ k = omega arith in
          rw (moves, place) at (AreAllowed-moved count j nodes (length before) one below (reads j one (slice_get-get_or instructions j past inside)))
    ]
  where
    past : Instruction
    past = Not (Constant false)

    moved : List Instruction
    moved = map (moved_instruction nodes (length before)) instructions

    is : get_or (before ++ moved) k instruction ≡ instruction
    is = get_or_from_slice_get (before ++ moved) k instruction instruction stands

-- no instruction has no result
results-none : (input : List Tern) → results input [] ≡ []
unfolding results
results-none input = refl

-- the results of the first moved instructions follow the results that were there
results-moved_some : (state : List Tern) (nodes : List ℕ) (before instructions : List Instruction)
    → ((k : ℕ) (instruction : Instruction) → slice_get instructions k ≡ Some instruction → AreAllowed (length nodes) k instruction)
    → (k : ℕ) → k ≤ length instructions
    → results state (before ++ map (moved_instruction nodes (length before)) (take k instructions))
    ≡ results state before ++ results (map (state_at state) nodes) (take k instructions)
results-moved_some state nodes before instructions reads zero some =
    rw (append-nil, results-none (map (state_at state) nodes)) (sym (append-nil (results state before)))
results-moved_some state nodes before instructions reads (suc k) some =
    let past : Instruction = Not (Constant false) in
    let instruction = get_or instructions k past in
    let offset = length before in
    let front = map (moved_instruction nodes offset) (take k instructions) in
    let done = results (map (state_at state) nodes) (take k instructions) in
    let next : take (suc k) instructions ≡ take k instructions ++ instruction ∷ [] = take-suc instructions k past some in
    let earlier = results-moved_some state nodes before instructions reads k (omega arith) in
    let long : length done ≡ k = length-results (map (state_at state) nodes) (take k instructions) ∙ length-take-le k instructions (omega arith) in
    let allowed : AreAllowed (length nodes) (length done) instruction = rw long (reads k instruction (slice_get-get_or instructions k past some)) in
    let value = instruction_value-moved state nodes (results state before) done offset instruction (sym (length-results state before)) allowed in
    rw (
      next,
      map_push (moved_instruction nodes offset) (take k instructions) instruction,
      ← append_assoc before front (moved_instruction nodes offset instruction ∷ []),
      results-more state (before ++ front) (moved_instruction nodes offset instruction),
      earlier,
      value,
      results-more (map (state_at state) nodes) (take k instructions) instruction,
    )
    (append_assoc (results state before) done (instruction_value (map (state_at state) nodes) done instruction ∷ []))

-- the results of a part's instructions, moved, follow the results that were there
pub results-moved : (state : List Tern) (nodes : List ℕ) (before instructions : List Instruction)
    → ((k : ℕ) (instruction : Instruction) → slice_get instructions k ≡ Some instruction → AreAllowed (length nodes) k instruction)
    → results state (before ++ map (moved_instruction nodes (length before)) instructions)
    ≡ results state before ++ results (map (state_at state) nodes) instructions
results-moved state nodes before instructions reads =
    rw (take_all (length instructions) instructions (omega arith)) at (results-moved_some state nodes before instructions reads (length instructions) (omega arith))
