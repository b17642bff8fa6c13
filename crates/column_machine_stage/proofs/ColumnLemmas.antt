-- Words and the states of columns: what is set, added and placed in words is so in each column.
use Rattle.std.proofs.Common.{◌≡◌, ◌≢◌, ℕ, zero, suc, ◌+◌, ◌-◌, ◌<◌, ◌≤◌, Bool, ◌||◌, List, [], ◌∷◌, length, map, get_or, set, replicate, min, refl, sym, ap, ap₂, subst, ◌∙◌, arith, inl, inr}
use Rattle.std.specs.Prelude.{zip, ◌⊎◌}
use Rattle.std.proofs.lemmas.Bool.{cases_eq}
use Rattle.std.proofs.lemmas.List.{get_or-map, length-set, map-set, length-map}
use Rattle.std.proofs.lemmas.Slice.Zip.{length-zip, get_or-zip}
use Rattle.ternary.specs.declared.tern.Tern.{Tern}
use Rattle.ternary.specs.declared.tern.Tern.TheVariants.{Zero, One, Unk}
use Rattle.ternary.specs.Tern.{may_one, may_zero}
use Rattle.switch_paths.specs.Switching.{state_at}
use Rattle.word_columns.specs.Columns.{is_in_column, AreRailsIn}
use Rattle.word_columns.proofs.ColumnLemmas.{column-none, column-all, column_bits-set, length-column_bits}
use Rattle.word_columns.proofs.RunLemmas.{high_counted}
use Rattle.column_machines.specs.Columns as machine
use Rattle.column_machines.specs.Columns.{state_with, column_states, HasStates}
use Rattle.column_machines.specs.Running.{AreColumns}
use Rattle.column_machines.proofs.ColumnLemmas.{column_states-has, state_with-rails, rails_of-state_with, some_rail}
use Rattle.column_machine_stage.specs.declared.words.Words.{Words}
use Rattle.column_machine_stage.specs.Stages.{HasValue, HasValuesBelow}

-- ---- bits

-- one column more has its state
pub HasValuesBelow-more : (states : List Tern) (count : ℕ) (words : Words) (hi lo : ℕ) (one other : Bool) → count < 64 → HasValuesBelow count states words →
    one ≡ may_one (state_at states count) → other ≡ may_zero (state_at states count) →
    is_in_column count hi ≡ one → ((column : ℕ) → column < 64 → column ≢ count → is_in_column column hi ≡ is_in_column column words.hi) →
    is_in_column count lo ≡ other → ((column : ℕ) → column < 64 → column ≢ count → is_in_column column lo ≡ is_in_column column words.lo) →
    HasValuesBelow (count + 1) states (record { hi = hi; lo = lo })
HasValuesBelow-more states count words hi lo one other few before ones zeros high highs low lows =
    λ column inside. by column inside (cases_eq column count)
  where
    by : (column : ℕ) → column < count + 1 → (column ≡ count) ⊎ (column ≢ count) →
        HasValue column (state_at states column) (record { hi = hi; lo = lo })
    by column inside (inl same) = record {
      one = ap (λ k. is_in_column k hi) same ∙ high ∙ ones ∙ ap (λ k. may_one (state_at states k)) (sym same);
      zero = ap (λ k. is_in_column k lo) same ∙ low ∙ zeros ∙ ap (λ k. may_zero (state_at states k)) (sym same);
    }
    by column inside (inr differs) =
        let was = before column (omega arith) in
        record { one = highs column (omega arith) differs ∙ was.one; zero = lows column (omega arith) differs ∙ was.zero }

-- ---- values

-- a value has a rail in each column
pub HasStates-value : (columns : ℕ) (value : ℕ → Tern) (words : Words) → ((column : ℕ) → column < columns → HasValue column (value column) words) → HasStates columns words.hi words.lo
HasStates-value columns value words has column inside =
    let here = has column inside in
    ap₂ (λ a b. a || b) here.one here.zero ∙ some_rail (value column)

-- the state with a value's rails is that value
pub value_is : (column : ℕ) (value : Tern) (words : Words) → HasValue column value words → state_with (is_in_column column words.hi) (is_in_column column words.lo) ≡ value
value_is column value words has = ap₂ state_with has.one has.zero ∙ state_with-rails value

-- ---- lists of words

-- words that are set
pub AreRailsIn-set : (column node : ℕ) (hi lo : List ℕ) (states : List Tern) (value : Tern) (words : Words) → AreRailsIn column hi lo states → HasValue column value words →
    AreRailsIn column (set hi node words.hi) (set lo node words.lo) (set states node value)
AreRailsIn-set column node hi lo states value words has is = record {
  ones = column_bits-set column hi node words.hi ∙ ap₂ (λ bits bit. set bits node bit) has.ones is.one ∙ sym (map-set may_one states node value);
  zeros = column_bits-set column lo node words.lo ∙ ap₂ (λ bits bit. set bits node bit) has.zeros is.zero ∙ sym (map-set may_zero states node value);
}

-- both rails are as many as the states
pub even_rails : (column : ℕ) (hi lo : List ℕ) (states : List Tern) → AreRailsIn column hi lo states → length lo ≡ length hi
even_rails column hi lo states has =
    sym (length-column_bits column lo) ∙ ap length has.zeros ∙ length-map states may_zero ∙ sym (high_counted column hi lo states has)

-- where the words have these states, they are the column's
pub column_is : (column : ℕ) (hi lo : List ℕ) (states : List Tern) → AreRailsIn column hi lo states → column_states column hi lo ≡ states
column_is column hi lo states has = column_states-has column hi lo (even_rails column hi lo states has) states has

-- so each column has its states
pub AreColumns-states : (columns : ℕ) (hi lo : List ℕ) (states : ℕ → List Tern) → 1 ≤ columns → ((column : ℕ) → column < columns → AreRailsIn column hi lo (states column)) →
    AreColumns columns hi lo
AreColumns-states columns hi lo states some has = record {
  counted = even_rails 0 hi lo (states 0) (has 0 (omega arith));
  each = λ column inside.
      let here = has column inside in
      subst (AreRailsIn column hi lo) (sym (column_is column hi lo (states column) here)) here;
}

-- ---- columns of any words

-- a column where words are set
pub column_states-set : (column node high low : ℕ) (hi lo : List ℕ) →
    column_states column (set hi node high) (set lo node low)
    ≡ set (column_states column hi lo) node (state_with (is_in_column column high) (is_in_column column low))
column_states-set column node high low [] lo = refl
column_states-set column zero high low (x ∷ hi) [] = refl
column_states-set column (suc node) high low (x ∷ hi) [] = refl
column_states-set column zero high low (x ∷ hi) (y ∷ lo) = refl
column_states-set column (suc node) high low (x ∷ hi) (y ∷ lo) =
    ap (λ rest. machine.state_in column (x, y) ∷ rest) (column_states-set column node high low hi lo)

-- a column has as many states as both rails have words
pub length-column_states-min : (column : ℕ) (hi lo : List ℕ) → length (column_states column hi lo) ≡ min (length hi) (length lo)
length-column_states-min column hi lo = length-map (zip hi lo) (machine.state_in column) ∙ length-zip hi lo

-- the state of a node in a column, by its words
pub column_states-get : (column node : ℕ) (hi lo : List ℕ) → node < length hi → node < length lo →
    state_at (column_states column hi lo) node ≡ machine.state_in column (get_or hi node 0, get_or lo node 0)
column_states-get column node hi lo high low =
    get_or-map (machine.state_in column) (zip hi lo) node (0, 0) Zero (omega (arith, high, low, length-zip hi lo))
    ∙ ap (machine.state_in column) (get_or-zip hi lo node (0, 0) high low)

-- ---- the start

-- the same words everywhere have the same states
HasRail-replicate : (column count word : ℕ) (rail : Tern → Bool) (state : Tern) → is_in_column column word ≡ rail state →
    map (is_in_column column) (replicate count word) ≡ map rail (replicate count state)
HasRail-replicate column zero word rail state is = refl
HasRail-replicate column (suc count) word rail state is = ap₂ (λ (bit : Bool) (bits : List Bool). bit ∷ bits) is (HasRail-replicate column count word rail state is)

-- the states at the start, in words
pub AreRailsIn-start : (column nodes : ℕ) → column < 64 → 2 ≤ nodes →
    AreRailsIn column (set (replicate nodes 18446744073709551615) 0 0) (set (replicate nodes 18446744073709551615) 1 0) (Zero ∷ One ∷ replicate (nodes - 2) Unk)
AreRailsIn-start column zero inside some = absurd (omega (arith, some))
AreRailsIn-start column (suc zero) inside some = absurd (omega (arith, some))
AreRailsIn-start column (suc (suc count)) inside some =
    let few : suc (suc count) - 2 ≡ count = omega arith in
    let none = column-none column in
    let all = column-all column inside in
    rw few (record {
      ones = ap₂ (λ (bit : Bool) (bits : List Bool). bit ∷ bits) none
          (ap₂ (λ (bit : Bool) (bits : List Bool). bit ∷ bits) all (HasRail-replicate column count 18446744073709551615 may_one Unk all));
      zeros = ap₂ (λ (bit : Bool) (bits : List Bool). bit ∷ bits) all
          (ap₂ (λ (bit : Bool) (bits : List Bool). bit ∷ bits) none (HasRail-replicate column count 18446744073709551615 may_zero Unk all));
    })

-- ---- a node that is placed

-- where words are set that have a column's value, the column has it
pub placed_value : (column node : ℕ) (value : Tern) (words : Words) (hi lo new_hi new_lo : List ℕ) → HasValue column value words → new_hi ≡ set hi node words.hi →
    new_lo ≡ set lo node words.lo → column_states column new_hi new_lo ≡ set (column_states column hi lo) node value
placed_value column node value words hi lo new_hi new_lo has high low =
    ap₂ (column_states column) high low ∙ column_states-set column node words.hi words.lo hi lo
    ∙ ap (set (column_states column hi lo) node) (value_is column value words has)

-- a node of a column has words
pub within_high : (column node nodes : ℕ) (hi lo : List ℕ) → length (column_states column hi lo) ≡ nodes → node < nodes → node < length hi
within_high column node nodes hi lo counted inside = omega (arith, counted, inside, length-column_states-min column hi lo)

pub within_low : (column node nodes : ℕ) (hi lo : List ℕ) → length (column_states column hi lo) ≡ nodes → node < nodes → node < length lo
within_low column node nodes hi lo counted inside = omega (arith, counted, inside, length-column_states-min column hi lo)

-- the columns where words are set that have some rail in each
pub AreColumns-set : (columns node : ℕ) (words : Words) (hi lo : List ℕ) → HasStates columns words.hi words.lo → AreColumns columns hi lo →
    AreColumns columns (set hi node words.hi) (set lo node words.lo)
AreColumns-set columns node words hi lo some columns_are = record {
  counted = length-set lo node words.lo ∙ columns_are.counted ∙ sym (length-set hi node words.hi);
  each = λ column inside.
      let both = rails_of-state_with (is_in_column column words.hi) (is_in_column column words.lo) (some column inside) in
      let value : Tern = state_with (is_in_column column words.hi) (is_in_column column words.lo) in
      let has = AreRailsIn-set column node hi lo (column_states column hi lo) value words (columns_are.each column inside)
      (record { one = both.0; zero = both.1 }) in
      subst (AreRailsIn column (set hi node words.hi) (set lo node words.lo)) (sym (column_states-set column node words.hi words.lo hi lo)) has;
}
