-- A run in a column: the array's bits of the column are the array of the machine's run on the column's states.
use Rattle.std.proofs.Common.{◌≡◌, ℕ, ◌+◌, ◌*◌, ◌<◌, ◌≤◌, Bool, true, false, List, [], ◌∷◌, ◌++◌, length, map, take, get_or, set, sym, ap, ap₂, ◌∙◌, arith}
use Rattle.std.proofs.lemmas.List.{get_or-map, get_or-take, map_more, take_more_set, length-map, length-take-le, take_all}
use Rattle.ternary.specs.declared.tern.Tern.{Tern}
use Rattle.ternary.specs.declared.tern.Tern.TheVariants.{Zero}
use Rattle.ternary.specs.Tern.{may_one, may_zero}
use Rattle.switch_paths.specs.Switching.{state_at}
use Rattle.straight_code.specs.declared.flat.FlatStep.{FlatStep}
use Rattle.straight_code.specs.declared.flat.FlatOutput.{FlatOutput}
use Rattle.straight_code.specs.Code.{CodeData, IsCode, settled, results, output_state, code_value}
use Rattle.straight_code.specs.Flat.{IsFlat, flat_values, pair_value, step_value, kind_value, step_of}
use Rattle.straight_code.specs.declared.flat.FlatCode.{FlatCode}
use Rattle.straight_code.proofs.FlatLemmas.{constants_written, rails_written}
use Rattle.straight_code.proofs.RunMappedLemmas.{no_step, no_output, IsWithin, length-steps, result_written, pair_reads, pair_state, step_reads}
use Rattle.word_columns.specs.Columns.{is_in_column, column_bits, AreRailsIn}
use Rattle.word_columns.proofs.ColumnLemmas.{column-all, column-none, column_bits-at, column_bits-set, column_bits-take, length-column_bits}

-- the rails of a node in a column are those of its state
module _ (column : ℕ) (hi lo : List ℕ) (state : List Tern) (has : AreRailsIn column hi lo state) where
  pub high_counted : length hi ≡ length state
  high_counted = sym (length-column_bits column hi) ∙ ap length has.ones ∙ length-map state may_one

  pub high_at_node : (node : ℕ) → node < length hi → is_in_column column (get_or hi node 0) ≡ may_one (state_at state node)
  high_at_node node inside =
      sym (column_bits-at column hi node inside) ∙ ap (λ bits. get_or bits node false) has.ones
      ∙ get_or-map may_one state node Zero false (omega (arith, high_counted))

  pub low_at_node : length lo ≡ length hi → (node : ℕ) → node < length hi → is_in_column column (get_or lo node 0) ≡ may_zero (state_at state node)
  low_at_node counted node inside =
      sym (column_bits-at column lo node (omega (arith, counted))) ∙ ap (λ bits. get_or bits node false) has.zeros
      ∙ get_or-map may_zero state node Zero false (omega (arith, high_counted))

-- the array with the constants
pub constants_in_column : (column : ℕ) (values : List ℕ) → column < 64 → 2 ≤ length values →
    take 2 (column_bits column (set (set values 0 0) 1 18446744073709551615)) ≡ flat_values [] []
constants_in_column column values inside room =
    ap (take 2) (column_bits-set column (set values 0 0) 1 18446744073709551615 ∙ ap₂ (λ bits bit. set bits 1 bit) (column_bits-set column values 0 0) (column-all column inside))
    ∙ ap (λ bit. take 2 (set (set (column_bits column values) 0 bit) 1 true)) (column-none column)
    ∙ constants_written (column_bits column values) (omega (arith, length-column_bits column values))

-- the array with the rails of one input more
pub rails_in_column : (column : ℕ) (input : List Tern) (state : Tern) (values : List ℕ) (j first second : ℕ) → 4 + 2 * j ≤ length values →
    is_in_column column first ≡ may_one state → is_in_column column second ≡ may_zero state →
    take (2 + 2 * j) (column_bits column values) ≡ flat_values input [] →
    take (2 + 2 * (j + 1)) (column_bits column (set (set values (2 + 2 * j) first) (3 + 2 * j) second)) ≡ flat_values (input ++ state ∷ []) []
rails_in_column column input state values j first second room high low so_far =
    ap (take (2 + 2 * (j + 1)))
    (column_bits-set column (set values (2 + 2 * j) first) (3 + 2 * j) second
    ∙ ap₂ (λ bits bit. set bits (3 + 2 * j) bit)
    (column_bits-set column values (2 + 2 * j) first ∙ ap (set (column_bits column values) (2 + 2 * j)) high) low)
    ∙ rails_written input state (column_bits column values) j (omega (arith, length-column_bits column values)) so_far

-- an instruction on words gives its value in a column
pub step_in_column : (column : ℕ) (values : List ℕ) (step : FlatStep) → step.a < length values → step.b < length values →
    kind_value step.kind (is_in_column column (get_or values step.a 0)) (is_in_column column (get_or values step.b 0))
    ≡ step_value (column_bits column values) step
step_in_column column values step a b =
    ap₂ (kind_value step.kind) (sym (column_bits-at column values step.a a)) (sym (column_bits-at column values step.b b))

-- both rails of an output on words are those of its state in a column
pub pair_in_column : (column : ℕ) (values : List ℕ) (pair : FlatOutput) → pair.hi < length values → pair.lo < length values →
    settled (is_in_column column (get_or values pair.hi 0)) (is_in_column column (get_or values pair.lo 0))
    ≡ pair_value (column_bits column values) pair
pair_in_column column values pair hi lo = ap₂ settled (sym (column_bits-at column values pair.hi hi)) (sym (column_bits-at column values pair.lo lo))

-- one rail of an output more
pub rail_written : (column : ℕ) (rail : Tern → Bool) (states : List Tern) (out : List ℕ) (k word : ℕ) → k < length states → k < length out →
    is_in_column column word ≡ rail (state_at states k) → take k (column_bits column out) ≡ map rail (take k states) →
    take (k + 1) (column_bits column (set out k word)) ≡ map rail (take (k + 1) states)
rail_written column rail states out k word inside room is so_far =
    ap (take (k + 1)) (column_bits-set column out k word)
    ∙ take_more_set (column_bits column out) k (is_in_column column word) (omega (arith, length-column_bits column out))
    ∙ ap₂ (λ (front : List Bool) (last : Bool). front ++ last ∷ []) so_far is
    ∙ sym (map_more rail states k Zero inside)

module _ (code : CodeData) (steps : List FlatStep) (flat : steps ≡ map (step_of code.inputs) code.instructions) (is_code : IsCode code) where
  -- the array before its result has these places
  pub front_read : (first k : ℕ) (values : List ℕ) → first ≡ code.inputs → k < length steps → 2 + 2 * code.inputs + length code.instructions ≤ length values
      → IsWithin (get_or steps k no_step) (length (take (2 + 2 * first + k) values))
  front_read first k values counted stands room =
      let inside : k < length code.instructions = omega (arith, stands, length-steps code steps flat is_code) in
      let within = step_reads code steps flat is_code k inside in
      rw (length-take-le (2 + 2 * first + k) values (omega (arith, counted, inside, room))) (record { a = omega (arith, within.a, counted); b = omega (arith, within.b, counted) })

  -- once its result is written, the array has the results up to it in a column
  pub step_written : (k : ℕ) → k < length steps → (column : ℕ) (input : List Tern) (values : List ℕ) (word : ℕ) → length input ≡ code.inputs →
      2 + 2 * code.inputs + length code.instructions ≤ length values →
      is_in_column column word ≡ step_value (column_bits column (take (2 + 2 * code.inputs + k) values)) (get_or steps k no_step) →
      take (2 + 2 * code.inputs + k) (column_bits column values) ≡ flat_values input (results input (take k code.instructions)) →
      take (2 + 2 * code.inputs + (k + 1)) (column_bits column (set values (2 + 2 * code.inputs + k) word))
      ≡ flat_values input (results input (take (k + 1) code.instructions))
  step_written k stands column input values word many room is so_far =
      let inside : k < length code.instructions = omega (arith, stands, length-steps code steps flat is_code) in
      let place = 2 + 2 * length input + k in
      let same : 2 + 2 * code.inputs + k ≡ place = omega (arith, many) in
      let next : 2 + 2 * code.inputs + (k + 1) ≡ 2 + 2 * length input + (k + 1) = omega (arith, many) in
      let front : column_bits column (take (2 + 2 * code.inputs + k) values) ≡ take place (column_bits column values) =
      sym (column_bits-take column (2 + 2 * code.inputs + k) values) ∙ ap (λ count. take count (column_bits column values)) same in
      let own : is_in_column column word ≡ step_value (take place (column_bits column values)) (get_or steps k no_step) =
      is ∙ ap (λ bits. step_value bits (get_or steps k no_step)) front in
      let before : take place (column_bits column values) ≡ flat_values input (results input (take k code.instructions)) =
      ap (λ count. take count (column_bits column values)) (sym same) ∙ so_far in
      ap (take (2 + 2 * code.inputs + (k + 1))) (column_bits-set column values (2 + 2 * code.inputs + k) word)
      ∙ ap₂ (λ count at. take count (set (column_bits column values) at (is_in_column column word))) next same
      ∙ result_written input code.instructions steps (rw many flat) (rw many is_code.reads) k inside no_step
      (column_bits column values) (is_in_column column word) (omega (arith, room, inside, many, length-column_bits column values)) before own

  -- after the last one the array has all results in a column
  pub all_written : (count : ℕ) (column : ℕ) (input : List Tern) (values : List ℕ) → count ≡ length steps →
      take (2 + 2 * code.inputs + count) (column_bits column values) ≡ flat_values input (results input (take count code.instructions)) →
      take (2 + 2 * code.inputs + length code.instructions) (column_bits column values) ≡ flat_values input (results input code.instructions)
  all_written count column input values last so_far =
      let end : count ≡ length code.instructions = last ∙ length-steps code steps flat is_code in
      rw (end, take_all (length code.instructions) code.instructions (omega arith)) at so_far

module _ (code : CodeData) (flat : FlatCode) (is_flat : IsFlat code.inputs code.instructions code.outputs flat) (is_code : IsCode code)
    (k : ℕ) (inside : k < length code.outputs) (pair : FlatOutput) (is_pair : pair ≡ get_or flat.outputs.items k pair) where
  -- over the array in which the code ran the rails of an output are those of its state
  pub output_in_column : (column : ℕ) (input : List Tern) (values : List ℕ) → length input ≡ code.inputs →
      2 + 2 * code.inputs + length code.instructions ≤ length values →
      take (2 + 2 * code.inputs + length code.instructions) (column_bits column values) ≡ flat_values input (results input code.instructions) →
      settled (is_in_column column (get_or values pair.hi 0)) (is_in_column column (get_or values pair.lo 0)) ≡ state_at (code_value code input) k
  output_in_column column input values many room whole =
      let end = 2 + 2 * code.inputs + length code.instructions in
      let reads = pair_reads code flat is_flat is_code k inside pair is_pair in
      let state = pair_state input code.instructions code.outputs flat.outputs.items (rw many is_flat.pairs) (rw many is_code.outputs) k inside
      pair no_output (take end (column_bits column values)) whole in
      let own : pair_value (take end (column_bits column values)) pair ≡ output_state input (results input code.instructions) (get_or code.outputs k no_output) =
      ap (pair_value (take end (column_bits column values))) is_pair ∙ state in
      pair_in_column column values pair (omega (arith, reads.hi, room)) (omega (arith, reads.lo, room))
      ∙ ap₂ settled (sym (get_or-take end (column_bits column values) pair.hi false reads.hi)) (sym (get_or-take end (column_bits column values) pair.lo false reads.lo))
      ∙ own
      ∙ sym (get_or-map (output_state input (results input code.instructions)) code.outputs k no_output Zero inside)
