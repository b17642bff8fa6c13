-- A run in a column, whatever stands for truths.
use Rattle.std.proofs.Common.{◌≡◌, ℕ, suc, ◌+◌, ◌*◌, ◌<◌, ◌≤◌, Bool, true, false, List, [], ◌∷◌, ◌++◌, length, map, take, get_or, set, All, refl, sym, ap, ap₂, ◌∙◌, arith}
use Rattle.std.proofs.lemmas.List.{get_or-map, get_or-take, map_more, map-set, take_more_set, take-map, length-map, length-take-le, take_all}
use Rattle.std.proofs.lemmas.List.Elements.{All-set}
use Rattle.ternary.specs.declared.tern.Tern.{Tern}
use Rattle.ternary.specs.declared.tern.Tern.TheVariants.{Zero}
use Rattle.straight_code.specs.declared.flat.FlatStep.{FlatStep}
use Rattle.straight_code.specs.Code.{CodeData, IsCode, results}
use Rattle.straight_code.specs.Flat.{flat_values, step_value, step_of}
use Rattle.straight_code.proofs.RunMappedLemmas.{no_step, IsWithin, length-steps, result_written, step_reads}
use Rattle.ternary.specs.Tern.{may_one, may_zero}
use Rattle.switch_paths.specs.Switching.{state_at}
use Rattle.straight_code.specs.declared.flat.FlatOutput.{FlatOutput}
use Rattle.straight_code.specs.declared.flat.FlatCode.{FlatCode}
use Rattle.straight_code.specs.Code.{settled, output_state, code_value}
use Rattle.straight_code.specs.Flat.{IsFlat, pair_value}
use Rattle.straight_code.proofs.FlatLemmas.{constants_written, rails_written}
use Rattle.straight_code.proofs.RunMappedLemmas.{no_output, pair_reads, pair_state}
use Rattle.truth_columns.specs.Columns.{values_in, AreKept, HasColumn}

-- what is kept twice is kept
pub AreKept-trans : {A : Type 0} → (n m k : ℕ) (P Q R : A → Type 0) (f g h : A → ℕ → Bool) → AreKept n P f m Q g → AreKept m Q g k R h → AreKept n P f k R h
AreKept-trans n m k P Q R f g h first second = record {
  count = second.count ∙ first.count;
  there = λ truth has. second.there truth (first.there truth has);
  stays = λ truth column has inside.
      let within : column < m = omega (arith, first.count) in
      second.stays truth column (first.there truth has) within ∙ first.stays truth column has inside;
}

-- what changes nothing keeps all
pub AreKept-same : {A : Type 0} → (n : ℕ) (P : A → Type 0) (f : A → ℕ → Bool) → AreKept n P f n P f
AreKept-same n P f = record { count = refl; there = λ truth has. has; stays = λ truth column has inside. refl }

-- all truths of a list are there later
pub All-kept : {A : Type 0} → (n m : ℕ) (P Q : A → Type 0) (f g : A → ℕ → Bool) (truths : List A) → AreKept n P f m Q g → All P truths → All Q truths
All-kept n m P Q f g truths kept all = λ k d inside. kept.there (get_or truths k d) (all k d inside)

-- and have the values that they had
pub values_in-kept : {A : Type 0} → (n m : ℕ) (P Q : A → Type 0) (f g : A → ℕ → Bool) (column : ℕ) (truths : List A) → AreKept n P f m Q g → All P truths → column < n
    → values_in g column truths ≡ values_in f column truths
values_in-kept n m P Q f g column [] kept all inside = refl
values_in-kept n m P Q f g column (truth ∷ truths) kept all inside =
    ap₂ (λ (value : Bool) (values : List Bool). value ∷ values)
    (kept.stays truth column (all 0 truth (omega arith)) inside)
    (values_in-kept n m P Q f g column truths kept (λ k d less. all (suc k) d (omega arith)) inside)

module _ (code : CodeData) (steps : List FlatStep) (flat : steps ≡ map (step_of code.inputs) code.instructions) (is_code : IsCode code) where
  -- once its result is written, the array has the results up to it in a column
  pub bits_written : (k : ℕ) → k < length code.instructions → (input : List Tern) (bits : List Bool) (bit : Bool) → length input ≡ code.inputs →
      2 + 2 * code.inputs + length code.instructions ≤ length bits →
      bit ≡ step_value (take (2 + 2 * code.inputs + k) bits) (get_or steps k no_step) →
      take (2 + 2 * code.inputs + k) bits ≡ flat_values input (results input (take k code.instructions)) →
      take (2 + 2 * code.inputs + (k + 1)) (set bits (2 + 2 * code.inputs + k) bit) ≡ flat_values input (results input (take (k + 1) code.instructions))
  bits_written k inside input bits bit many room is so_far =
      let within = result_written input code.instructions steps (rw many flat) (rw many is_code.reads) k inside no_step
      bits bit (omega (arith, room, inside, many)) (rw many so_far) (rw many is) in
      rw many at within

  -- after the last one the array has all results in a column
  pub all_written : (count : ℕ) (input : List Tern) (bits : List Bool) → count ≡ length steps →
      take (2 + 2 * code.inputs + count) bits ≡ flat_values input (results input (take count code.instructions)) →
      take (2 + 2 * code.inputs + length code.instructions) bits ≡ flat_values input (results input code.instructions)
  all_written count input bits last so_far =
      let end : count ≡ length code.instructions = last ∙ length-steps code steps flat is_code in
      rw (end, take_all (length code.instructions) code.instructions (omega arith)) at so_far

-- the values of the front of a list
pub values_in-take : {A : Type 0} → (f : A → ℕ → Bool) (column n : ℕ) (truths : List A) → values_in f column (take n truths) ≡ take n (values_in f column truths)
values_in-take f column n truths = sym (take-map (λ truth. f truth column) n truths)

-- the values of a list with another truth at a place
pub values_in-set : {A : Type 0} → (f : A → ℕ → Bool) (column i : ℕ) (truth : A) (truths : List A)
    → values_in f column (set truths i truth) ≡ set (values_in f column truths) i (f truth column)
values_in-set f column i truth truths = map-set (λ x. f x column) truths i truth

-- how many values there are
pub length-values_in : {A : Type 0} → (f : A → ℕ → Bool) (column : ℕ) (truths : List A) → length (values_in f column truths) ≡ length truths
length-values_in f column truths = length-map truths (λ truth. f truth column)

module _ {A : Type 0} (code : CodeData) (steps : List FlatStep) (flat : steps ≡ map (step_of code.inputs) code.instructions) (is_code : IsCode code)
    (m p : ℕ) (Q R : A → Type 0) (g h : A → ℕ → Bool) (kept : AreKept m Q g p R h) (values : List A) (there : All Q values)
    (first k : ℕ) (counted : first ≡ code.inputs) (stands : k < length steps) (room : 2 + 2 * code.inputs + length code.instructions ≤ length values) where
  -- the array before an instruction's result has the places that it reads
  pub front_read : IsWithin (get_or steps k no_step) (length (take (2 + 2 * first + k) values))
  front_read =
      let inside : k < length code.instructions = omega (arith, stands, length-steps code steps flat is_code) in
      let within = step_reads code steps flat is_code k inside in
      rw (length-take-le (2 + 2 * first + k) values (omega (arith, counted, inside, room))) (record { a = omega (arith, within.a, counted); b = omega (arith, within.b, counted) })

  -- all truths are there after an instruction
  pub all_there : (made : A) → R made → All R (set values (2 + 2 * first + k) made)
  all_there made has = All-set R values (2 + 2 * first + k) made has (All-kept m p Q R g h values kept there)

  -- and in a column the array has its result
  pub ran_more : (column : ℕ) (input : List Tern) (made : A) → column < m → length input ≡ code.inputs →
      h made column ≡ step_value (values_in g column (take (2 + 2 * first + k) values)) (get_or steps k no_step) →
      take (2 + 2 * code.inputs + k) (values_in g column values) ≡ flat_values input (results input (take k code.instructions)) →
      take (2 + 2 * code.inputs + (k + 1)) (values_in h column (set values (2 + 2 * first + k) made)) ≡ flat_values input (results input (take (k + 1) code.instructions))
  ran_more column input made inside many is so_far =
      let within : k < length code.instructions = omega (arith, stands, length-steps code steps flat is_code) in
      let bits = values_in g column values in
      let own : h made column ≡ step_value (take (2 + 2 * code.inputs + k) bits) (get_or steps k no_step) =
      is ∙ ap (λ front. step_value front (get_or steps k no_step)) (values_in-take g column (2 + 2 * first + k) values ∙ ap (λ n. take (2 + 2 * n + k) bits) counted) in
      ap (take (2 + 2 * code.inputs + (k + 1)))
      (values_in-set h column (2 + 2 * first + k) made values
      ∙ ap₂ (λ (all : List Bool) (n : ℕ). set all (2 + 2 * n + k) (h made column)) (values_in-kept m p Q R g h column values kept there inside) counted)
      ∙ bits_written code steps flat is_code k within input bits (h made column) many (omega (arith, room, length-values_in g column values)) own so_far

-- the value of a truth of a list
pub value_at : {A : Type 0} → (f : A → ℕ → Bool) (column : ℕ) (truths : List A) (i : ℕ) (d : A) → i < length truths
    → get_or (values_in f column truths) i false ≡ f (get_or truths i d) column
value_at f column truths i d inside = get_or-map (λ truth. f truth column) truths i d false inside

-- the rails of a node in a column are those of its state
module _ {A : Type 0} (f : A → ℕ → Bool) (column : ℕ) (hi lo : List A) (state : List Tern) (has : HasColumn f column hi lo state) where
  pub high_counted : length hi ≡ length state
  high_counted = sym (length-values_in f column hi) ∙ ap length has.ones ∙ length-map state may_one

  pub high_at_node : (node : ℕ) (d : A) → node < length hi → f (get_or hi node d) column ≡ may_one (state_at state node)
  high_at_node node d inside =
      sym (value_at f column hi node d inside) ∙ ap (λ bits. get_or bits node false) has.ones
      ∙ get_or-map may_one state node Zero false (omega (arith, high_counted))

  pub low_at_node : length lo ≡ length hi → (node : ℕ) (d : A) → node < length hi → f (get_or lo node d) column ≡ may_zero (state_at state node)
  low_at_node counted node d inside =
      sym (value_at f column lo node d (omega (arith, counted))) ∙ ap (λ bits. get_or bits node false) has.zeros
      ∙ get_or-map may_zero state node Zero false (omega (arith, high_counted))

-- the array with the constants
pub constants_in_column : {A : Type 0} → (f : A → ℕ → Bool) (column : ℕ) (values : List A) (never always : A) → f never column ≡ false → f always column ≡ true
    → 2 ≤ length values → take 2 (values_in f column (set (set values 0 never) 1 always)) ≡ flat_values [] []
constants_in_column f column values never always low high room =
    ap (take 2) (values_in-set f column 1 always (set values 0 never) ∙ ap₂ (λ (bits : List Bool) (bit : Bool). set bits 1 bit) (values_in-set f column 0 never values) high)
    ∙ ap (λ bit. take 2 (set (set (values_in f column values) 0 bit) 1 true)) low
    ∙ constants_written (values_in f column values) (omega (arith, length-values_in f column values))

-- the array with the rails of one input more
pub rails_in_column : {A : Type 0} → (f : A → ℕ → Bool) (column : ℕ) (input : List Tern) (state : Tern) (values : List A) (j : ℕ) (first second : A) → 4 + 2 * j ≤ length values →
    f first column ≡ may_one state → f second column ≡ may_zero state → take (2 + 2 * j) (values_in f column values) ≡ flat_values input [] →
    take (2 + 2 * (j + 1)) (values_in f column (set (set values (2 + 2 * j) first) (3 + 2 * j) second)) ≡ flat_values (input ++ state ∷ []) []
rails_in_column f column input state values j first second room high low so_far =
    ap (take (2 + 2 * (j + 1)))
    (values_in-set f column (3 + 2 * j) second (set values (2 + 2 * j) first)
    ∙ ap₂ (λ (bits : List Bool) (bit : Bool). set bits (3 + 2 * j) bit) (values_in-set f column (2 + 2 * j) first values ∙ ap (set (values_in f column values) (2 + 2 * j)) high) low)
    ∙ rails_written input state (values_in f column values) j (omega (arith, length-values_in f column values)) so_far

module _ (code : CodeData) (flat : FlatCode) (is_flat : IsFlat code.inputs code.instructions code.outputs flat) (is_code : IsCode code)
    (k : ℕ) (inside : k < length code.outputs) (pair : FlatOutput) (is_pair : pair ≡ get_or flat.outputs.items k pair) where
  -- over the array in which the code ran the rails of an output are those of its state
  pub output_in_column : {A : Type 0} → (f : A → ℕ → Bool) (column : ℕ) (input : List Tern) (values : List A) (one none : A) → length input ≡ code.inputs →
      2 + 2 * code.inputs + length code.instructions ≤ length values → one ≡ get_or values pair.hi one → none ≡ get_or values pair.lo none →
      take (2 + 2 * code.inputs + length code.instructions) (values_in f column values) ≡ flat_values input (results input code.instructions) →
      settled (f one column) (f none column) ≡ state_at (code_value code input) k
  output_in_column f column input values one none many room is_one is_none whole =
      let end = 2 + 2 * code.inputs + length code.instructions in
      let reads = pair_reads code flat is_flat is_code k inside pair is_pair in
      let state = pair_state input code.instructions code.outputs flat.outputs.items (rw many is_flat.pairs) (rw many is_code.outputs) k inside
      pair no_output (take end (values_in f column values)) whole in
      let own : pair_value (take end (values_in f column values)) pair ≡ output_state input (results input code.instructions) (get_or code.outputs k no_output) =
      ap (pair_value (take end (values_in f column values))) is_pair ∙ state in
      ap₂ settled
      (ap (λ x. f x column) is_one ∙ sym (value_at f column values pair.hi one (omega (arith, reads.hi, room)))
      ∙ sym (get_or-take end (values_in f column values) pair.hi false reads.hi))
      (ap (λ x. f x column) is_none ∙ sym (value_at f column values pair.lo none (omega (arith, reads.lo, room)))
      ∙ sym (get_or-take end (values_in f column values) pair.lo false reads.lo))
      ∙ own
      ∙ sym (get_or-map (output_state input (results input code.instructions)) code.outputs k no_output Zero inside)

-- one rail of an output more
pub rail_written : {A : Type 0} → (f : A → ℕ → Bool) (column : ℕ) (rail : Tern → Bool) (states : List Tern) (out : List A) (k : ℕ) (truth : A)
    → k < length states → k < length out → f truth column ≡ rail (state_at states k) → take k (values_in f column out) ≡ map rail (take k states)
    → take (k + 1) (values_in f column (set out k truth)) ≡ map rail (take (k + 1) states)
rail_written f column rail states out k truth inside room is so_far =
    ap (take (k + 1)) (values_in-set f column k truth out)
    ∙ take_more_set (values_in f column out) k (f truth column) (omega (arith, room, length-values_in f column out))
    ∙ ap₂ (λ (front : List Bool) (last : Bool). front ++ last ∷ []) so_far is
    ∙ sym (map_more rail states k Zero inside)

-- a node's rail in a column is that of its state
module _ {A : Type 0} (f : A → ℕ → Bool) (column : ℕ) (hi lo : List A) (state : List Tern) (has : HasColumn f column hi lo state) where
  pub low_counted : length lo ≡ length state
  low_counted = sym (length-values_in f column lo) ∙ ap length has.zeros ∙ length-map state may_zero

  pub high_rail : (node : ℕ) → node < length hi → get_or (values_in f column hi) node false ≡ may_one (state_at state node)
  high_rail node inside =
      ap (λ bits. get_or bits node false) has.ones ∙ get_or-map may_one state node Zero false (omega (arith, inside, high_counted f column hi lo state has))

  pub low_rail : (node : ℕ) → node < length lo → get_or (values_in f column lo) node false ≡ may_zero (state_at state node)
  low_rail node inside = ap (λ bits. get_or bits node false) has.zeros ∙ get_or-map may_zero state node Zero false (omega (arith, inside, low_counted))
