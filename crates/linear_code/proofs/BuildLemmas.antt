-- Building a listing: one part after another is added, and each member's output keeps its meaning when further parts are.
use Rattle.std.proofs.Common.{◌≡◌, ℕ, zero, suc, ◌+◌, ◌<◌, ◌≤◌, ◌⊎◌, Bool, false, List, ◌++◌, length, map, take, Some, slice_get, sym, ap, ◌∙◌, inl, inr, arith}
use Rattle.std.specs.Prelude.{◌≢◌, sum, All, slice_index, slice_index_or}
use Rattle.std.proofs.lemmas.Bool.{cases_lt, cases_eq}
use Rattle.std.proofs.lemmas.List.{length-append, length-map, get_or_past, get_or-map}
use Rattle.std.proofs.lemmas.List.Elements.{All-from_get_or}
use Rattle.std.proofs.lemmas.List.Sums.{sum-map, sum_by_more}
use Rattle.std.proofs.lemmas.Option.{slice_get-get_or, slice_get_within, get_or_from_slice_get, same_Some}
use Rattle.ternary.specs.declared.tern.Tern.{Tern}
use Rattle.ternary.specs.declared.tern.Tern.TheVariants.{Unk}
use Rattle.straight_code.specs.declared.code.Operand.TheVariants.{Constant}
use Rattle.straight_code.specs.declared.code.Instruction.{Instruction}
use Rattle.straight_code.specs.declared.code.Output.{Output}
use Rattle.straight_code.specs.declared.part.Part.{Part}
use Rattle.straight_code.specs.Code.{results, output_state, code_value, AreAllowed, IsOutput, IsCode}
use Rattle.straight_code.specs.Parts.{IsPart, IsMemberAt, mapped}
use Rattle.linear_code.specs.Moved.{moved_instruction, moved_output, output_at, AddsPart}
use Rattle.straight_code.proofs.ResultLemmas.{length-results, operand_value-more}
use Rattle.linear_code.proofs.MovedLemmas.{results-moved, reads-moved, output_state-moved, IsOutput-moved, IsOutput-more}

-- the first so many parts have been added: each of their members moves to what its part's code gives
pub record AreAdded (nodes : ℕ) (parts : List Part) (done : ℕ) (instructions : List Instruction) (outputs : List Output) : Type 0 where
  pub count : length instructions ≡ sum (map (λ part. length part.code.value.instructions) (take done parts))
  pub room : length outputs ≡ nodes
  pub reads : (k : ℕ) (instruction : Instruction) → slice_get instructions k ≡ Some instruction → AreAllowed nodes k instruction
  pub allowed : All (IsOutput nodes (length instructions)) outputs
  pub moves : (state : List Tern) → length state ≡ nodes → (node k j : ℕ) (member : IsMemberAt parts node k j) → k < done →
      output_state state (results state instructions) (output_at outputs node)
      ≡ slice_index_or (code_value member.part.code.value (mapped member.part state)) j Unk

-- the instructions of a part's code read rails of its map's nodes and earlier results alone
part_reads : (nodes : ℕ) (part : Part) → IsPart nodes part → IsCode part.code.value
    → (k : ℕ) (instruction : Instruction) → slice_get part.code.value.instructions k ≡ Some instruction
    → AreAllowed (length part.map.items) k instruction
part_reads nodes part fits program k instruction stands = rw fits.inputs (program.reads k instruction stands)

-- each output of a part's code reads rails of its map's nodes and results alone
part_output : (nodes : ℕ) (part : Part) (j : ℕ) → IsPart nodes part → IsCode part.code.value → j < part.members
    → IsOutput (length part.map.items) (length part.code.value.instructions) (output_at part.code.value.outputs j)
part_output nodes part j fits program member =
    let inside : j < length part.code.value.outputs = omega (arith, fits.outputs) in
    rw fits.inputs (program.outputs j (record { hi = Constant false; lo = Constant false }) inside)

-- the output of a node is allowed where each output is
IsOutput-at : (nodes count : ℕ) (outputs : List Output) (node : ℕ) → All (IsOutput nodes count) outputs → IsOutput nodes count (output_at outputs node)
IsOutput-at nodes count outputs node allowed =
    let never : Output = record { hi = Constant false; lo = Constant false } in
    elim (cases_lt node (length outputs)) [
      | inl inside ↦ allowed node never inside
      | inr past ↦ rw (get_or_past outputs node never past) (record { hi = tt; lo = tt })
    ]

-- an output keeps its state when results are added
output_state-more : (state : List Tern) (done more : List Bool) (nodes count : ℕ) (output : Output)
    → count ≤ length done → IsOutput nodes count output
    → output_state state (done ++ more) output ≡ output_state state done output
output_state-more state done more nodes count output enough allowed =
    rw (operand_value-more state done more nodes count output.hi enough allowed.hi, operand_value-more state done more nodes count output.lo enough allowed.lo)

-- the results of a part's instructions follow those that were there
results-added : (nodes : ℕ) (part : Part) (before after : List Instruction) (old new : List Output) (state : List Tern)
    → IsPart nodes part → IsCode part.code.value → AddsPart part before after old new
    → results state after ≡ results state before ++ results (mapped part state) part.code.value.instructions
results-added nodes part before after old new state fits program adds =
    ap (results state) adds.instructions ∙ results-moved state part.map.items before part.code.value.instructions (part_reads nodes part fits program)

-- a member of the part that was added moves to what the part's code gives
member-moves : (nodes : ℕ) (part : Part) (before after : List Instruction) (old new : List Output) (state : List Tern) (node j : ℕ)
    → IsPart nodes part → IsCode part.code.value → AddsPart part before after old new
    → j < part.members → slice_get part.map.items j ≡ Some node
    → output_state state (results state after) (output_at new node) ≡ slice_index_or (code_value part.code.value (mapped part state)) j Unk
member-moves nodes part before after old new state node j fits program adds member place =
    let never : Output = record { hi = Constant false; lo = Constant false } in
    let done = results (mapped part state) part.code.value.instructions in
    let output = output_at part.code.value.outputs j in
    let here : slice_index part.map.items j ≡ node = get_or_from_slice_get part.map.items j node 0 place in
    let puts : output_at new node ≡ moved_output part.map.items (length before) output = rw here at (adds.outputs.here j member) in
    let inside : j < length part.code.value.outputs = omega (arith, fits.outputs) in
    let allowed : IsOutput (length part.map.items) (length done) output =
    rw (length-results (mapped part state) part.code.value.instructions) (part_output nodes part j fits program member) in
    rw (results-added nodes part before after old new state fits program adds, puts)
    (output_state-moved state part.map.items (results state before) done (length before) output (sym (length-results state before)) allowed
    ∙ sym (get_or-map (output_state (mapped part state) done) part.code.value.outputs j never Unk inside))

-- a node is the member of a part at some place, or at none
member_or_not : (nodes : List ℕ) (node count : ℕ)
    → ((j : ℕ) × (j < count) × (slice_index nodes j ≡ node)) ⊎ ((j : ℕ) → j < count → slice_index nodes j ≢ node)
member_or_not nodes node zero = inr (λ j none. absurd (omega arith))
member_or_not nodes node (suc count) =
    elim (member_or_not nodes node count) [
      | inl found ↦
          let before : found.0 < suc count = omega (arith, found.1) in
          inl (found.0, before, found.2)
      | inr none ↦ elim (cases_eq (slice_index nodes count) node) [
        | inl same ↦ inl (count, omega arith, same)
        | inr other ↦ inr (λ j before. elim (cases_eq j count) [ inl last ↦ rw last other | inr less ↦ none j (omega arith) ])
      ]
    ]

-- a part adds as many instructions as its code has
length-added : (part : Part) (before after : List Instruction) (old new : List Output) → AddsPart part before after old new
    → length after ≡ length before + length part.code.value.instructions
length-added part before after old new adds =
    let moves = moved_instruction part.map.items (length before) in
    ap length adds.instructions ∙ length-append before (map moves part.code.value.instructions)
    ∙ ap (λ count. length before + count) (length-map part.code.value.instructions moves)

-- each output reads nodes and results alone once a part was added
allowed-next : (nodes : ℕ) (part : Part) (before after : List Instruction) (old new : List Output)
    → IsPart nodes part → IsCode part.code.value → AddsPart part before after old new
    → All (IsOutput nodes (length before)) old
    → All (IsOutput nodes (length after)) new
allowed-next nodes part before after old new fits program adds allowed =
    let longer = length-added part before after old new adds in
    All-from_get_or (IsOutput nodes (length after)) new (record { hi = Constant false; lo = Constant false }) (λ node inside.
    elim (member_or_not part.map.items node part.members) [
      | inl found ↦
          let puts : output_at new node ≡ moved_output part.map.items (length before) (output_at part.code.value.outputs found.0) =
          rw found.2 at (adds.outputs.here found.0 found.1) in
          rw (puts, longer)
          (IsOutput-moved nodes (length part.code.value.instructions) part.map.items (length before) (output_at part.code.value.outputs found.0) fits.below
          (part_output nodes part found.0 fits program found.1))
      | inr none ↦
          let more : length before ≤ length after = omega (arith, longer) in
          rw (adds.outputs.others node none)
          (IsOutput-more nodes (length before) (length after) (output_at old node) (IsOutput-at nodes (length before) old node allowed) more)
    ])

-- one part more is added
pub AreAdded-next : (nodes : ℕ) (parts : List Part) (done : ℕ) (part : Part) (before after : List Instruction) (old new : List Output)
    → ((node k j l i : ℕ) → IsMemberAt parts node k j → IsMemberAt parts node l i → k ≡ l)
    → slice_get parts done ≡ Some part → IsPart nodes part → IsCode part.code.value
    → AddsPart part before after old new
    → AreAdded nodes parts done before old
    → AreAdded nodes parts (done + 1) after new
AreAdded-next nodes parts done part before after old new once stands fits program adds so_far = record {
  count = counted;
  room = adds.outputs.count ∙ so_far.room;
  reads = rw adds.instructions (reads-moved nodes part.map.items before part.code.value.instructions fits.below so_far.reads (part_reads nodes part fits program));
  allowed = allowed-next nodes part before after old new fits program adds so_far.allowed;
  moves = λ state count node k j member passed. elim (cases_lt k done) [
    | inl earlier ↦ kept state count node k j member earlier
    | inr more ↦
        let last : k ≡ done = omega arith in
        let same : member.part ≡ part = same_Some member.part part (sym member.stands ∙ ap (slice_get parts) last ∙ stands) in
        rw same
        (member-moves nodes part before after old new state node j fits program adds (rw same at member.is_member) (rw same at member.at_place))
  ];
}
  where
    counted : length after ≡ sum (map (λ one. length one.code.value.instructions) (take (done + 1) parts))
    counted =
        let size = λ (one : Part). length one.code.value.instructions in
        let so_many = sum-map size (take done parts) in
        let one_more = sum-map size (take (done + 1) parts) in
        let step = sum_by_more size parts done part (slice_get_within parts done part stands) in
        let is = ap size (get_or_from_slice_get parts done part part stands) in
        omega (arith, so_far.count, length-added part before after old new adds, so_many, one_more, step, is)

    kept : (state : List Tern) → length state ≡ nodes → (node k j : ℕ) (member : IsMemberAt parts node k j) → k < done
        → output_state state (results state after) (output_at new node) ≡ slice_index_or (code_value member.part.code.value (mapped member.part state)) j Unk
    kept state count node k j member earlier =
        let away : (i : ℕ) → i < part.members → slice_index part.map.items i ≢ node = λ i inside same.
        let room : i < length part.map.items = omega (arith, fits.members) in
        let here : IsMemberAt parts node done i = record {
          part = part;
          stands = stands;
          is_member = inside;
          at_place = slice_get-get_or part.map.items i 0 room ∙ ap Some same;
        } in
        omega (arith, once node k j done i member here) in
        let enough : length before ≤ length (results state before) = omega (arith, length-results state before) in
        rw (adds.outputs.others node away, results-added nodes part before after old new state fits program adds)
        (output_state-more state (results state before) (results (mapped part state) part.code.value.instructions) nodes (length before) (output_at old node)
        enough (IsOutput-at nodes (length before) old node so_far.allowed)
        ∙ so_far.moves state count node k j member earlier)
