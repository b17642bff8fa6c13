-- Columns of words: the states of a column, and their rails.
use Rattle.std.proofs.Common.{◌≡◌, ◌≢◌, ℕ, suc, ◌-◌, ◌*◌, ◌^◌, ◌%◌, ◌<◌, Bool, true, false, ◌||◌, ◌&&◌, List, [], ◌∷◌, ◌++◌, length, map, get_or, bit_and, bit_or, w64, refl, sym, ap, ap₂, ◌∙◌, arith}
use Rattle.std.specs.Prelude.{◌==◌, zip}
use Rattle.std.proofs.lemmas.Bool.{and_parts}
use Rattle.std.proofs.lemmas.Nat.Bits.{bit_at_clear_same, bit_at_clear_other, bit_at_set_same, bit_at_set_other}
use Rattle.std.proofs.lemmas.List.{ext_get_or, get_or-map, length-map, map-append}
use Rattle.std.proofs.lemmas.Slice.Zip.{get_or-zip}
use Rattle.ternary.specs.declared.tern.Tern.{Tern}
use Rattle.ternary.specs.declared.tern.Tern.TheVariants.{Zero, One, Unk}
use Rattle.ternary.specs.Tern.{may_one, may_zero}
use Rattle.switch_paths.specs.Switching.{state_at}
use Rattle.word_columns.specs.Columns.{is_in_column, column_bits, AreRailsIn}
use Rattle.word_columns.proofs.ColumnLemmas.{column-all, column-and, column-none, column_bits-at, length-column_bits}
use Rattle.word_columns.proofs.RunLemmas.{high_counted, high_at_node, low_at_node}
use Rattle.column_machines.specs.Columns.{state_with, state_in, column_states}

-- ---- bits that are set or cleared

pub column-clear_here : (word column : ℕ) → column < 64 → is_in_column column (bit_and word (18446744073709551615 - 1 * 2 ^ column % 18446744073709551616)) ≡ false
unfolding is_in_column
column-clear_here word column inside = ap (λ bit. bit == 1) (bit_at_clear_same w64 word column inside)

pub column-clear_other : (word column : ℕ) → column < 64 → (other : ℕ) → other < 64 → other ≢ column →
    is_in_column other (bit_and word (18446744073709551615 - 1 * 2 ^ column % 18446744073709551616)) ≡ is_in_column other word
unfolding is_in_column
column-clear_other word column inside other few differs = ap (λ bit. bit == 1) (bit_at_clear_other w64 word column inside other few differs)

pub column-set_here : (word column : ℕ) → column < 64 → is_in_column column (bit_or word (1 * 2 ^ column % 18446744073709551616)) ≡ true
unfolding is_in_column
column-set_here word column inside = ap (λ bit. bit == 1) (bit_at_set_same w64 word column inside)

pub column-set_other : (word column : ℕ) → column < 64 → (other : ℕ) → other ≢ column →
    is_in_column other (bit_or word (1 * 2 ^ column % 18446744073709551616)) ≡ is_in_column other word
unfolding is_in_column
column-set_other word column inside other differs = ap (λ bit. bit == 1) (bit_at_set_other w64 word column inside other differs)

-- a word with all used bits, or none of them
pub column-all_set : (word used : ℕ) → bit_and word used ≡ used → (column : ℕ) → is_in_column column used ≡ true → is_in_column column word ≡ true
column-all_set word used same column is = (and_parts (is_in_column column word) (is_in_column column used) (sym (column-and column word used) ∙ (ap (is_in_column column) same ∙ is))).0

pub column-none_set : (word used : ℕ) → bit_and word used ≡ 0 → (column : ℕ) → is_in_column column used ≡ true → is_in_column column word ≡ false
column-none_set word used same column is =
    by (is_in_column column word) (ap (λ bit. is_in_column column word && bit) (sym is) ∙ (sym (column-and column word used) ∙ (ap (is_in_column column) same ∙ column-none column)))
  where
    by : (bit : Bool) → (bit && true) ≡ false → bit ≡ false
    by true both = absurd (cc)
    by false both = refl

-- ---- columns

-- the state with the rails of a state is that state
pub state_with-rails : (s : Tern) → state_with (may_one s) (may_zero s) ≡ s
state_with-rails Zero = refl
state_with-rails One = refl
state_with-rails Unk = refl

-- where some rail is set, they are those of a state
pub rails_of-state_with : (one other : Bool) → (one || other) ≡ true → (one ≡ may_one (state_with one other)) × (other ≡ may_zero (state_with one other))
rails_of-state_with true true some = (refl, refl)
rails_of-state_with true false some = (refl, refl)
rails_of-state_with false true some = (refl, refl)
rails_of-state_with false false some = absurd (cc)

-- a state has a rail
pub some_rail : (s : Tern) → (may_one s || may_zero s) ≡ true
some_rail Zero = refl
some_rail One = refl
some_rail Unk = refl

-- a column has a state for each node
pub length-column_states : (column : ℕ) (hi lo : List ℕ) → length lo ≡ length hi → length (column_states column hi lo) ≡ length hi
length-column_states column [] lo same = refl
length-column_states column (x ∷ hi) [] same = absurd (omega (arith, same))
length-column_states column (x ∷ hi) (y ∷ lo) same = ap suc (length-column_states column hi lo (omega (arith, same)))

module _ (column : ℕ) (hi lo : List ℕ) (even : length lo ≡ length hi) where
  -- the state of a node in a column is that with its rails
  pub column_states-at : (node : ℕ) → node < length hi → state_at (column_states column hi lo) node ≡ state_with (is_in_column column (get_or hi node 0)) (is_in_column column (get_or lo node 0))
  column_states-at node inside =
      let within : node < length (zip hi lo) =
      omega (arith, inside, length-column_states column hi lo even, length-map (zip hi lo) (state_in column)) in
      get_or-map (state_in column) (zip hi lo) node (0, 0) Zero within
      ∙ ap (state_in column) (get_or-zip hi lo node (0, 0) inside (omega (arith, inside, even)))

  -- so a node that has the rails of a state has that state
  pub column_states-value : (node : ℕ) → node < length hi → (s : Tern) → is_in_column column (get_or hi node 0) ≡ may_one s →
      is_in_column column (get_or lo node 0) ≡ may_zero s → state_at (column_states column hi lo) node ≡ s
  column_states-value node inside s one other = column_states-at node inside ∙ ap₂ state_with one other ∙ state_with-rails s

  -- if the words are the rails of states, these are the column's
  pub column_states-has : (state : List Tern) → AreRailsIn column hi lo state → column_states column hi lo ≡ state
  column_states-has state has =
      ext_get_or Zero (column_states column hi lo) state (length-column_states column hi lo even ∙ high_counted column hi lo state has)
      (λ node inside.
      let within : node < length hi = omega (arith, inside, length-column_states column hi lo even) in
      column_states-value node within (state_at state node) (high_at_node column hi lo state has node within) (low_at_node column hi lo state has even node within))

  -- and where each node has the rails of some state, the words are the rails of the column's states
  pub AreRailsIn-each : ((node : ℕ) → node < length hi → (s : Tern) × (is_in_column column (get_or hi node 0) ≡ may_one s) × (is_in_column column (get_or lo node 0) ≡ may_zero s)) →
      AreRailsIn column hi lo (column_states column hi lo)
  AreRailsIn-each each = record {
    ones = ext_get_or false (column_bits column hi) (map may_one (column_states column hi lo))
        (length-column_bits column hi ∙ sym (length-map (column_states column hi lo) may_one ∙ length-column_states column hi lo even))
        (λ node inside.
        let within : node < length hi = omega (arith, inside, length-column_bits column hi) in
        let (s, one, other) = each node within in
        let there : node < length (column_states column hi lo) = omega (arith, within, length-column_states column hi lo even) in
        column_bits-at column hi node within ∙ one ∙ ap may_one (sym (column_states-value node within s one other))
        ∙ sym (get_or-map may_one (column_states column hi lo) node Zero false there));
    zeros = ext_get_or false (column_bits column lo) (map may_zero (column_states column hi lo))
        (length-column_bits column lo ∙ even ∙ sym (length-map (column_states column hi lo) may_zero ∙ length-column_states column hi lo even))
        (λ node inside.
        let within : node < length hi = omega (arith, inside, length-column_bits column lo, even) in
        let (s, one, other) = each node within in
        let there : node < length (column_states column hi lo) = omega (arith, within, length-column_states column hi lo even) in
        column_bits-at column lo node (omega (arith, within, even)) ∙ other ∙ ap may_zero (sym (column_states-value node within s one other))
        ∙ sym (get_or-map may_zero (column_states column hi lo) node Zero false there));
  }

-- ---- nodes that are added

-- X has both rails in each column
pub AreRailsIn-unknown : (column : ℕ) (hi lo : List ℕ) (states : List Tern) → column < 64 → AreRailsIn column hi lo states →
    AreRailsIn column (hi ++ 18446744073709551615 ∷ []) (lo ++ 18446744073709551615 ∷ []) (states ++ Unk ∷ [])
AreRailsIn-unknown column hi lo states inside has =
    let all : is_in_column column 18446744073709551615 ≡ true = column-all column inside in
    record {
      ones = map-append (is_in_column column) hi (18446744073709551615 ∷ []) ∙ ap₂ (λ (bits : List Bool) (bit : Bool). bits ++ bit ∷ []) has.ones all
          ∙ sym (map-append may_one states (Unk ∷ []));
      zeros = map-append (is_in_column column) lo (18446744073709551615 ∷ [])
          ∙ ap₂ (λ (bits : List Bool) (bit : Bool). bits ++ bit ∷ []) has.zeros all
          ∙ sym (map-append may_zero states (Unk ∷ []));
    }
