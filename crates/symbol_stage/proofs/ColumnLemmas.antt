-- The states at the start, and those with new nodes, by functions that hold nowhere and everywhere.
use Rattle.std.proofs.Common.{◌≡◌, ℕ, zero, suc, ◌-◌, ◌<◌, ◌≤◌, Bool, true, false, List, ◌∷◌, ◌++◌, length, map, set, replicate, refl, sym, ap, ap₂, ◌∙◌, arith, append-nil, length-append}
use Rattle.std.proofs.lemmas.List.{length-replicate, length-set, map-append}
use Rattle.ternary.specs.declared.tern.Tern.{Tern}
use Rattle.ternary.specs.declared.tern.Tern.TheVariants.{Zero, One, Unk}
use Rattle.ternary.specs.Tern.{may_one, may_zero}
use Rattle.switch_paths.specs.Graphs.{GraphData, nodes}
use Rattle.column_stage.specs.Columns.{AreSound, with_new_nodes}
use Rattle.truth_columns.specs.Columns.{values_in, HasColumn}
use Rattle.truth_parts.specs.Columns.{states_in, AreColumns}
use Rattle.truth_parts.specs.Fitting.{HasSound}
use Rattle.truth_parts.proofs.ColumnLemmas.{length-states, states-has}
use Rattle.truth_parts.proofs.StepLemmas.{AreColumns-has}

-- a truth that has a state's rail in a column has it as often as it stands there
values-replicate : {A : Type 0} → (holds : A → ℕ → Bool) (column count : ℕ) (truth : A) (rail : Tern → Bool) (state : Tern) → holds truth column ≡ rail state →
    values_in holds column (replicate count truth) ≡ map rail (replicate count state)
values-replicate holds column zero truth rail state is = refl
values-replicate holds column (suc count) truth rail state is =
    ap₂ (λ (bit : Bool) (bits : List Bool). bit ∷ bits) is (values-replicate holds column count truth rail state is)

-- ---- the start

module _ {A : Type 0} (holds : A → ℕ → Bool) (never always : A) where
  -- Gnd is 0, Vdd is 1 and every other node X
  HasColumn-start : (column count : ℕ) → 2 ≤ count → holds never column ≡ false → holds always column ≡ true →
      HasColumn holds column (set (replicate count always) 0 never) (set (replicate count always) 1 never) (Zero ∷ One ∷ replicate (count - 2) Unk)
  HasColumn-start column zero some none all = absurd (omega (arith, some))
  HasColumn-start column (suc zero) some none all = absurd (omega (arith, some))
  HasColumn-start column (suc (suc count)) some none all =
      let few : suc (suc count) - 2 ≡ count = omega arith in
      rw few (record {
        ones = ap₂ (λ (bit : Bool) (bits : List Bool). bit ∷ bits) none
            (ap₂ (λ (bit : Bool) (bits : List Bool). bit ∷ bits) all (values-replicate holds column count always may_one Unk all));
        zeros = ap₂ (λ (bit : Bool) (bits : List Bool). bit ∷ bits) all
            (ap₂ (λ (bit : Bool) (bits : List Bool). bit ∷ bits) none (values-replicate holds column count always may_zero Unk all));
      })

  even-start : (count : ℕ) → length (set (replicate count always) 1 never) ≡ length (set (replicate count always) 0 never)
  even-start count = length-set (replicate count always) 1 never ∙ sym (length-set (replicate count always) 0 never)

  module _ (columns count : ℕ) (some : 2 ≤ count) (none : (column : ℕ) → column < columns → holds never column ≡ false)
      (all : (column : ℕ) → column < columns → holds always column ≡ true) where
    pub AreColumns-start : AreColumns columns holds (set (replicate count always) 0 never) (set (replicate count always) 1 never)
    AreColumns-start =
        AreColumns-has columns holds (set (replicate count always) 0 never) (set (replicate count always) 1 never) (even-start count)
        (λ column inside. (Zero ∷ One ∷ replicate (count - 2) Unk, HasColumn-start column count some (none column inside) (all column inside)))

    pub states-start : (column : ℕ) → column < columns →
        states_in holds column (set (replicate count always) 0 never) (set (replicate count always) 1 never) ≡ Zero ∷ One ∷ replicate (count - 2) Unk
    states-start column inside =
        states-has holds column (set (replicate count always) 0 never) (set (replicate count always) 1 never) (even-start count)
        (Zero ∷ One ∷ replicate (count - 2) Unk) (HasColumn-start column count some (none column inside) (all column inside))

-- ---- new nodes

module _ {A : Type 0} (columns : ℕ) (holds : A → ℕ → Bool) (always : A) (all : (column : ℕ) → column < columns → holds always column ≡ true)
    (hi lo : List A) (are : AreColumns columns holds hi lo) (count : ℕ) (more : length hi ≤ count) where
  -- the rails with those of new nodes behind them
  abbrev grown_hi : List A
  grown_hi = hi ++ replicate (count - length hi) always

  abbrev grown_lo : List A
  grown_lo = lo ++ replicate (count - length lo) always

  pub length-grown : length grown_hi ≡ count
  length-grown = omega (arith, length-append hi (replicate (count - length hi) always), length-replicate (count - length hi) always)

  even-grown : length grown_lo ≡ length grown_hi
  even-grown =
      omega (arith, length-grown, are.counted, length-append lo (replicate (count - length lo) always), length-replicate (count - length lo) always)

  -- each new node is X
  HasColumn-grown : (column : ℕ) → column < columns → HasColumn holds column grown_hi grown_lo (with_new_nodes (states_in holds column hi lo) count)
  HasColumn-grown column inside =
      let was = are.each column inside in
      let long : length (states_in holds column hi lo) ≡ length hi = length-states holds column hi lo are.counted in
      let fewer : count - length lo ≡ count - length hi = ap (λ n. count - n) are.counted in
      rw (long, fewer) (record {
        ones = map-append (λ truth. holds truth column) hi (replicate (count - length hi) always)
            ∙ ap₂ (λ (before behind : List Bool). before ++ behind) was.ones (values-replicate holds column (count - length hi) always may_one Unk (all column inside))
            ∙ sym (map-append may_one (states_in holds column hi lo) (replicate (count - length hi) Unk));
        zeros = map-append (λ truth. holds truth column) lo (replicate (count - length hi) always)
            ∙ ap₂ (λ (before behind : List Bool). before ++ behind) was.zeros (values-replicate holds column (count - length hi) always may_zero Unk (all column inside))
            ∙ sym (map-append may_zero (states_in holds column hi lo) (replicate (count - length hi) Unk));
      })

  pub AreColumns-grown : AreColumns columns holds grown_hi grown_lo
  AreColumns-grown =
      AreColumns-has columns holds grown_hi grown_lo even-grown
      (λ column inside. (with_new_nodes (states_in holds column hi lo) count, HasColumn-grown column inside))

  pub states-grown : (column : ℕ) → column < columns → states_in holds column grown_hi grown_lo ≡ with_new_nodes (states_in holds column hi lo) count
  states-grown column inside =
      states-has holds column grown_hi grown_lo even-grown (with_new_nodes (states_in holds column hi lo) count) (HasColumn-grown column inside)

-- without a new node the states are as before
pub none_new : (state : List Tern) (count : ℕ) → count ≤ length state → state ≡ with_new_nodes state count
none_new state count few =
    let none : count - length state ≡ 0 = omega (arith, few) in
    rw none (sym (append-nil state))

-- ---- a build

module _ {A : Type 0} (g : GraphData) (columns : ℕ) (holds : A → ℕ → Bool) (hi lo : List A) (are : AreColumns columns holds hi lo)
    (sound : AreSound g columns (λ column. states_in holds column hi lo)) where
  -- in each column the rails are those of a sound state
  pub HasSound-columns : (column : ℕ) → column < columns → HasSound g holds hi lo column
  HasSound-columns column inside =
      let is = sound column inside in
      record { state = states_in holds column hi lo; has = are.each column inside; counted = is.counted; sound = is.sound }

  -- and each node has its own
  pub counted-columns : 0 < columns → length hi ≡ nodes g
  counted-columns some = sym (length-states holds 0 hi lo are.counted) ∙ (sound 0 some).counted
