-- The array of a run: at the place of an operand stands its value, and it grows by the rails of an input and by the result of an
-- instruction.
use Rattle.std.proofs.Common.{◌≡◌, ℕ, zero, suc, ◌+◌, ◌-◌, ◌*◌, ◌<◌, ◌≤◌, Bool, true, false, List, [], ◌∷◌, ◌++◌, length, take, get_or, set, refl, sym, ap, ap₂, ◌∙◌, arith, append_assoc, append-nil}
use Rattle.std.proofs.lemmas.List.{get_or_append_left, get_or-append_right, take_more_set, length-set}
use Rattle.ternary.specs.declared.tern.Tern.{Tern}
use Rattle.ternary.specs.Tern.{may_one, may_zero}
use Rattle.switch_paths.specs.Switching.{state_at}
use Rattle.straight_code.specs.declared.code.Operand.{Operand}
use Rattle.straight_code.specs.declared.code.Operand.TheVariants.{Constant, High, Low, Earlier}
use Rattle.straight_code.specs.declared.code.Instruction.{Instruction}
use Rattle.straight_code.specs.declared.code.Instruction.TheVariants.{Not, And, Or}
use Rattle.straight_code.specs.declared.code.Output.{Output}
use Rattle.straight_code.specs.Code.{IsAllowed, AreAllowed, IsOutput, operand_value, instruction_value, output_state, settled}
use Rattle.straight_code.specs.Flat.{place_of, step_of, pair_of, rails, flat_values, step_value, pair_value, value_of, kind_value}

-- there are two rails for each input
pub length-rails : (input : List Tern) → length (rails input) ≡ 2 * length input
length-rails [] = refl
length-rails (state ∷ input) = omega (arith, length-rails input)

-- with the rails of one input more
pub rails-push : (input : List Tern) (state : Tern) → rails (input ++ state ∷ []) ≡ rails input ++ may_one state ∷ may_zero state ∷ []
rails-push [] state = refl
rails-push (first ∷ input) state = ap (λ rest. may_one first ∷ may_zero first ∷ rest) (rails-push input state)

-- the rails of an input stand at its places
high_at : (input : List Tern) (j : ℕ) → j < length input → get_or (rails input) (2 * j) false ≡ may_one (state_at input j)
high_at [] j inside = absurd (omega arith)
high_at (state ∷ input) zero inside = refl
high_at (state ∷ input) (suc j) inside =
    let next : 2 * suc j ≡ suc (suc (2 * j)) = omega arith in
    rw next (high_at input j (omega arith))

low_at : (input : List Tern) (j : ℕ) → j < length input → get_or (rails input) (1 + 2 * j) false ≡ may_zero (state_at input j)
low_at [] j inside = absurd (omega arith)
low_at (state ∷ input) zero inside = refl
low_at (state ∷ input) (suc j) inside =
    let next : 1 + 2 * suc j ≡ suc (suc (1 + 2 * j)) = omega arith in
    rw next (low_at input j (omega arith))

module _ (input : List Tern) (done : List Bool) where
  -- the rails stand behind the constants
  rail_at : (place : ℕ) → place < 2 * length input → value_of (flat_values input done) (2 + place) ≡ get_or (rails input) place false
  rail_at place inside =
      let within : place < length (rails input) = omega (arith, length-rails input) in
      let next : 2 + place ≡ suc (suc place) = omega arith in
      rw next (get_or_append_left (rails input) done false place within)

  -- and the results behind the rails
  result_at : (k : ℕ) → value_of (flat_values input done) (2 + 2 * length input + k) ≡ get_or done k false
  result_at k =
      let left : 2 + 2 * length input + k - (2 + 2 * length input) ≡ k = omega arith in
      get_or-append_right (false ∷ true ∷ rails input) done (2 + 2 * length input) (2 + 2 * length input + k) false
      (omega (arith, length-rails input)) (omega arith)
      ∙ ap (λ place. get_or done place false) left

  -- at the place of an operand stands its value
  pub operand_at_place : (count : ℕ) (operand : Operand) → IsAllowed (length input) count operand →
      value_of (flat_values input done) (place_of (length input) operand) ≡ operand_value input done operand
  operand_at_place count (Constant false) allowed = refl
  operand_at_place count (Constant true) allowed = refl
  operand_at_place count (High j) allowed = rail_at (2 * j) (omega arith) ∙ high_at input j allowed
  operand_at_place count (Low j) allowed =
      let place : 3 + 2 * j ≡ 2 + (1 + 2 * j) = omega arith in
      rw place (rail_at (1 + 2 * j) (omega arith) ∙ low_at input j allowed)
  operand_at_place count (Earlier k) allowed = result_at k

  -- the place stands in the array
  pub place_within : (operand : Operand) → IsAllowed (length input) (length done) operand →
      place_of (length input) operand < 2 + 2 * length input + length done
  place_within (Constant false) allowed = omega arith
  place_within (Constant true) allowed = omega arith
  place_within (High j) allowed = omega arith
  place_within (Low j) allowed = omega arith
  place_within (Earlier k) allowed = omega arith

  -- an instruction over the places gives its result
  pub step_value-of : (instruction : Instruction) → AreAllowed (length input) (length done) instruction →
      step_value (flat_values input done) (step_of (length input) instruction) ≡ instruction_value input done instruction
  step_value-of (Not a) allowed = ap (λ x. kind_value (step_of (length input) (Not a)).kind x x) (operand_at_place (length done) a allowed)
  step_value-of (And a b) allowed =
      ap₂ (kind_value (step_of (length input) (And a b)).kind) (operand_at_place (length done) a allowed.0) (operand_at_place (length done) b allowed.1)
  step_value-of (Or a b) allowed =
      ap₂ (kind_value (step_of (length input) (Or a b)).kind) (operand_at_place (length done) a allowed.0) (operand_at_place (length done) b allowed.1)

  -- an output over the places gives its state
  pub pair_value-of : (output : Output) → IsOutput (length input) (length done) output →
      pair_value (flat_values input done) (pair_of (length input) output) ≡ output_state input done output
  pair_value-of output allowed =
      ap₂ settled (operand_at_place (length done) output.hi allowed.hi) (operand_at_place (length done) output.lo allowed.lo)

-- the array with the rails of one input more
pub rails_written : (input : List Tern) (state : Tern) (values : List Bool) (j : ℕ) → 4 + 2 * j ≤ length values →
    take (2 + 2 * j) values ≡ flat_values input [] →
    take (2 + 2 * (j + 1)) (set (set values (2 + 2 * j) (may_one state)) (3 + 2 * j) (may_zero state)) ≡ flat_values (input ++ state ∷ []) []
rails_written input state values j room so_far =
    let front : List Bool = false ∷ true ∷ rails input in
    let one = may_one state in
    let zero = may_zero state in
    let middle = set values (2 + 2 * j) one in
    let next : 2 + 2 * (j + 1) ≡ 3 + 2 * j + 1 = omega arith in
    let before : 3 + 2 * j ≡ 2 + 2 * j + 1 = omega arith in
    let first : take (2 + 2 * j + 1) middle ≡ take (2 + 2 * j) values ++ one ∷ [] = take_more_set values (2 + 2 * j) one (omega arith) in
    let second : take (3 + 2 * j + 1) (set middle (3 + 2 * j) zero) ≡ take (3 + 2 * j) middle ++ zero ∷ [] =
    take_more_set middle (3 + 2 * j) zero (omega (arith, length-set values (2 + 2 * j) one)) in
    ap (λ count. take count (set middle (3 + 2 * j) zero)) next
    ∙ second
    ∙ ap (λ count. take count middle ++ zero ∷ []) before
    ∙ ap (λ list. list ++ zero ∷ []) (first ∙ ap (λ list. list ++ one ∷ []) (so_far ∙ append-nil front))
    ∙ append_assoc front (one ∷ []) (zero ∷ [])
    ∙ ap (λ list. false ∷ true ∷ list) (sym (rails-push input state))
    ∙ sym (append-nil (false ∷ true ∷ rails (input ++ state ∷ [])))

-- the array with the constants
pub constants_written : (values : List Bool) → 2 ≤ length values → take 2 (set (set values 0 false) 1 true) ≡ flat_values [] []
constants_written [] room = absurd (omega arith)
constants_written (one ∷ []) room = absurd (omega arith)
constants_written (one ∷ two ∷ values) room = refl
