-- The states of columns, and their rails.
use Rattle.std.proofs.Common.{◌≡◌, ℕ, suc, ◌<◌, Bool, true, false, ◌||◌, List, [], ◌∷◌, length, map, get_or, refl, sym, ap, ap₂, ◌∙◌, arith}
use Rattle.std.specs.Prelude.{zip}
use Rattle.std.proofs.lemmas.List.{ext_get_or, get_or-map, length-map}
use Rattle.std.proofs.lemmas.Slice.Zip.{get_or-zip}
use Rattle.ternary.specs.declared.tern.Tern.{Tern}
use Rattle.ternary.specs.declared.tern.Tern.TheVariants.{Zero, One, Unk}
use Rattle.ternary.specs.Tern.{may_one, may_zero}
use Rattle.switch_paths.specs.Switching.{state_at}
use Rattle.truth_columns.specs.Columns.{values_in, HasColumn}
use Rattle.truth_columns.proofs.ColumnLemmas.{high_counted, high_rail, low_rail, length-values_in}
use Rattle.truth_parts.specs.Columns.{rail_in, state_with, state_of, states_of, states_in}

-- the state with the rails of a state is that state
pub state_with-rails : (s : Tern) → state_with (may_one s) (may_zero s) ≡ s
state_with-rails Zero = refl
state_with-rails One = refl
state_with-rails Unk = refl

-- if some rail is there, they are those of a state
pub rails_of-state_with : (one other : Bool) → (one || other) ≡ true → (one ≡ may_one (state_with one other)) × (other ≡ may_zero (state_with one other))
rails_of-state_with true true some = (refl, refl)
rails_of-state_with true false some = (refl, refl)
rails_of-state_with false true some = (refl, refl)
rails_of-state_with false false some = absurd (cc)

-- there is a state for each two rails
pub length-states_of : (ones zeros : List Bool) → length zeros ≡ length ones → length (states_of ones zeros) ≡ length ones
length-states_of [] zeros same = refl
length-states_of (x ∷ ones) [] same = absurd (omega (arith, same))
length-states_of (x ∷ ones) (y ∷ zeros) same = ap suc (length-states_of ones zeros (omega (arith, same)))

-- the state of a node is that with its rails
pub states_of-at : (ones zeros : List Bool) → length zeros ≡ length ones → (node : ℕ) → node < length ones →
    state_at (states_of ones zeros) node ≡ state_with (get_or ones node false) (get_or zeros node false)
states_of-at ones zeros same node inside =
    let within : node < length (zip ones zeros) = omega (arith, inside, length-states_of ones zeros same, length-map (zip ones zeros) state_of) in
    get_or-map state_of (zip ones zeros) node (false, false) Zero within
    ∙ ap state_of (get_or-zip ones zeros node (false, false) inside (omega (arith, inside, same)))

module _ {A : Type 0} (holds : A → ℕ → Bool) (column : ℕ) (hi lo : List A) (even : length lo ≡ length hi) where
  rails_even : length (values_in holds column lo) ≡ length (values_in holds column hi)
  rails_even = length-values_in holds column lo ∙ even ∙ sym (length-values_in holds column hi)

  -- a column has a state for each node
  pub length-states : length (states_in holds column hi lo) ≡ length hi
  length-states = length-states_of (values_in holds column hi) (values_in holds column lo) rails_even ∙ length-values_in holds column hi

  -- the state of a node in a column is that with its rails
  pub state-at : (node : ℕ) → node < length hi → state_at (states_in holds column hi lo) node ≡ state_with (rail_in holds column hi node) (rail_in holds column lo node)
  state-at node inside =
      states_of-at (values_in holds column hi) (values_in holds column lo) rails_even node (omega (arith, inside, length-values_in holds column hi))

  -- so a node that has the rails of a state has that state
  pub state-value : (node : ℕ) → node < length hi → (s : Tern) → rail_in holds column hi node ≡ may_one s → rail_in holds column lo node ≡ may_zero s →
      state_at (states_in holds column hi lo) node ≡ s
  state-value node inside s one other = state-at node inside ∙ ap₂ state_with one other ∙ state_with-rails s

  -- if the truths are the rails of states, these are the column's
  pub states-has : (state : List Tern) → HasColumn holds column hi lo state → states_in holds column hi lo ≡ state
  states-has state has =
      ext_get_or Zero (states_in holds column hi lo) state (length-states ∙ high_counted holds column hi lo state has)
      (λ node inside.
      let within : node < length hi = omega (arith, inside, length-states) in
      state-value node within (state_at state node) (high_rail holds column hi lo state has node within) (low_rail holds column hi lo state has node (omega (arith, within, even))))

  -- and if each node has the rails of some state, the truths are the rails of the column's states
  pub HasColumn-each : ((node : ℕ) → node < length hi → (s : Tern) × (rail_in holds column hi node ≡ may_one s) × (rail_in holds column lo node ≡ may_zero s)) →
      HasColumn holds column hi lo (states_in holds column hi lo)
  HasColumn-each each = record {
    ones = ext_get_or false (values_in holds column hi) (map may_one (states_in holds column hi lo))
        (length-values_in holds column hi ∙ sym (length-map (states_in holds column hi lo) may_one ∙ length-states))
        (λ node inside.
        let within : node < length hi = omega (arith, inside, length-values_in holds column hi) in
        let (s, one, other) = each node within in
        let there : node < length (states_in holds column hi lo) = omega (arith, within, length-states) in
        one ∙ ap may_one (sym (state-value node within s one other)) ∙ sym (get_or-map may_one (states_in holds column hi lo) node Zero false there));
    zeros = ext_get_or false (values_in holds column lo) (map may_zero (states_in holds column hi lo))
        (length-values_in holds column lo ∙ even ∙ sym (length-map (states_in holds column hi lo) may_zero ∙ length-states))
        (λ node inside.
        let within : node < length hi = omega (arith, inside, length-values_in holds column lo, even) in
        let (s, one, other) = each node within in
        let there : node < length (states_in holds column hi lo) = omega (arith, within, length-states) in
        other ∙ ap may_zero (sym (state-value node within s one other)) ∙ sym (get_or-map may_zero (states_in holds column hi lo) node Zero false there));
  }
