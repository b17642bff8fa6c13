-- A column's bits as the rails of a state: joined, set, and compared with those of another state.
use Rattle.std.proofs.Common.{◌≡◌, ◌≢◌, ℕ, ◌+◌, ◌-◌, ◌*◌, ◌/◌, ◌%◌, ◌^◌, ◌<◌, Bool, true, false, not, ◌&&◌, ◌||◌, ◌==◌, bit_and, bit_or, w64, refl, sym, ap, ap₂, ◌∙◌, arith}
use mir.Val.{bool_byte}
use Rattle.std.specs.Prelude.{bit_xor}
use Rattle.std.specs.Int.{bit_at, trailing_zeros}
use Rattle.std.proofs.lemmas.Nat.{shr-shr}
use Rattle.std.proofs.lemmas.Nat.Bits.{bit_at_set_same, bit_at_set_other, bit_at_clear_same, bit_at-trailing_zeros}
use Rattle.std.proofs.Math.Bool.{or-true, or-false}
use Rattle.ternary.specs.declared.tern.Tern.{Tern}
use Rattle.ternary.specs.declared.tern.Tern.TheVariants.{Zero, One, Unk}
use Rattle.ternary.specs.Tern.{may_one, may_zero, join}
use Rattle.ternary.proofs.TernLemmas.{may_one-join, may_zero-join}
use Rattle.straight_code.specs.Code.{settled}
use Rattle.word_columns.specs.Columns.{is_in_column}
use Rattle.word_columns.proofs.ColumnLemmas.{turn, column-and, column-or, column-xor, column-not, column-none}
use Rattle.part_words.specs.Members.{HasState}

-- ---- one bit more

-- a column's bit is set too, if it is to be
pub column-with_same : (word column : ℕ) (set : Bool) → column < 64 →
    is_in_column column (bit_or word (bool_byte set * 2 ^ column % 18446744073709551616)) ≡ (is_in_column column word || set)
unfolding is_in_column
column-with_same word column true inside =
    ap (λ bit. bit == 1) (bit_at_set_same w64 word column inside) ∙ sym (or-true (bit_at word column == 1))
column-with_same word column false inside =
    let none : bool_byte false * 2 ^ column % 18446744073709551616 ≡ 0 = omega arith in
    ap (λ n. is_in_column column (bit_or word n)) none ∙ (column-or column word 0 ∙ ap (λ x. is_in_column column word || x) (column-none column))

-- and no other changes
pub column-with_other : (word column : ℕ) (set : Bool) → column < 64 → (other : ℕ) → other ≢ column →
    is_in_column other (bit_or word (bool_byte set * 2 ^ column % 18446744073709551616)) ≡ is_in_column other word
unfolding is_in_column
column-with_other word column true inside other differs = ap (λ bit. bit == 1) (bit_at_set_other w64 word column inside other differs)
column-with_other word column false inside other differs =
    let none : bool_byte false * 2 ^ column % 18446744073709551616 ≡ 0 = omega arith in
    ap (λ n. is_in_column other (bit_or word n)) none ∙ column-or other word 0 ∙ (ap (λ x. is_in_column other word || x) (column-none other) ∙ or-false (is_in_column other word))

-- behind so many columns
pub column-shifted : (shift column word : ℕ) → is_in_column column (word / 2 ^ shift) ≡ is_in_column (shift + column) word
unfolding is_in_column
column-shifted shift column word = ap (λ x. x % 2 == 1) (shr-shr word shift column)

-- a column's bit that is taken out
pub column-cleared : (word column : ℕ) → column < 64 →
    is_in_column column (bit_and word (18446744073709551615 - 1 * 2 ^ column % 18446744073709551616)) ≡ false
unfolding is_in_column
column-cleared word column inside = ap (λ bit. bit == 1) (bit_at_clear_same w64 word column inside)

agree-table : (same first second : Bool) → (same && not (turn first second)) ≡ true → (same ≡ true) × (first ≡ second)
agree-table true true true e = (refl, refl)
agree-table true true false e = absurd (cc)
agree-table true false true e = absurd (cc)
agree-table true false false e = (refl, refl)
agree-table false first second e = absurd (cc)

-- a column that is left where two words agree
pub column-agreeing : (column same first second : ℕ) → column < 64 → bit_xor first second < 2 ^ 64 →
    is_in_column column (bit_and same (18446744073709551615 - bit_xor first second)) ≡ true →
    (is_in_column column same ≡ true) × (is_in_column column first ≡ is_in_column column second)
column-agreeing column same first second inside fits left =
    agree-table (is_in_column column same) (is_in_column column first) (is_in_column column second)
    (sym (column-and column same (18446744073709551615 - bit_xor first second)
    ∙ ap (λ x. is_in_column column same && x) (column-not column (bit_xor first second) fits inside ∙ ap not (column-xor column first second))) ∙ left)

-- a column whose bit is the lowest that is set
pub column-first : (word : ℕ) → word ≢ 0 → word < 2 ^ 64 → (trailing_zeros w64 word < 64) × (is_in_column (trailing_zeros w64 word) word ≡ true)
unfolding is_in_column
column-first word some fits =
    let first = bit_at-trailing_zeros w64 word (omega (arith, some)) fits in
    (first.0, ap (λ bit. bit == 1) first.1)

-- ---- states

-- a state whose rails are behind so many columns
pub HasState-shifted : (shift column hi lo : ℕ) (s : Tern) → HasState (shift + column) hi lo s → HasState column (hi / 2 ^ shift) (lo / 2 ^ shift) s
HasState-shifted shift column hi lo s has = record {
  one = column-shifted shift column hi ∙ has.one;
  other = column-shifted shift column lo ∙ has.other;
}

-- the bits of both words together are the rails of the join
pub HasState-join : (column a b c d : ℕ) (s t : Tern) → HasState column a b s → HasState column c d t →
    HasState column (bit_or a c) (bit_or b d) (join s t)
HasState-join column a b c d s t first second = record {
  one = column-or column a c ∙ (ap₂ (λ x y. x || y) first.one second.one ∙ sym (may_one-join s t));
  other = column-or column b d ∙ (ap₂ (λ x y. x || y) first.other second.other ∙ sym (may_zero-join s t));
}

settled-rails : (s : Tern) → settled (may_one s) (may_zero s) ≡ s
settled-rails Zero = refl
settled-rails One = refl
settled-rails Unk = refl

-- a state is known by its rails
pub state-settled : (column hi lo : ℕ) (s : Tern) → HasState column hi lo s → settled (is_in_column column hi) (is_in_column column lo) ≡ s
state-settled column hi lo s has = ap₂ settled has.one has.other ∙ settled-rails s

-- whether two states differ, by their rails, if the first has a rail
abbrev pub differ : Tern → Tern → Bool
differ s t = (turn (may_one s) (may_one t) || turn (may_zero s) (may_zero t)) && (may_one s || may_zero s)

differ-true : (s t : Tern) → differ s t ≡ true → t ≢ s
differ-true Zero Zero e same = absurd (cc)
differ-true Zero One e same = absurd (cc)
differ-true Zero Unk e same = absurd (cc)
differ-true One Zero e same = absurd (cc)
differ-true One One e same = absurd (cc)
differ-true One Unk e same = absurd (cc)
differ-true Unk Zero e same = absurd (cc)
differ-true Unk One e same = absurd (cc)
differ-true Unk Unk e same = absurd (cc)

differ-false : (s t : Tern) → differ s t ≡ false → t ≡ s
differ-false Zero Zero e = refl
differ-false Zero One e = absurd (cc)
differ-false Zero Unk e = absurd (cc)
differ-false One Zero e = absurd (cc)
differ-false One One e = refl
differ-false One Unk e = absurd (cc)
differ-false Unk Zero e = absurd (cc)
differ-false Unk One e = absurd (cc)
differ-false Unk Unk e = refl

-- the word of the columns that differ
abbrev pub differing : ℕ → ℕ → ℕ → ℕ → ℕ
differing a b c d = bit_and (bit_or (bit_xor a c) (bit_xor b d)) (bit_or a b)

module _ (column a b c d : ℕ) (s t : Tern) (first : HasState column a b s) (second : HasState column c d t) where
  column-differing : is_in_column column (differing a b c d) ≡ differ s t
  column-differing =
      column-and column (bit_or (bit_xor a c) (bit_xor b d)) (bit_or a b)
      ∙ ap₂ (λ x y. x && y)
      (column-or column (bit_xor a c) (bit_xor b d)
      ∙ ap₂ (λ x y. x || y)
      (column-xor column a c ∙ ap₂ turn first.one second.one)
      (column-xor column b d ∙ ap₂ turn first.other second.other))
      (column-or column a b ∙ ap₂ (λ x y. x || y) first.one first.other)

  -- where the column's bit is set there, the states differ
  pub column-differs : is_in_column column (differing a b c d) ≡ true → t ≢ s
  column-differs set = differ-true s t (sym column-differing ∙ set)

  -- if it isn't, they are one
  pub column-agrees : is_in_column column (differing a b c d) ≡ false → t ≡ s
  column-agrees unset = differ-false s t (sym column-differing ∙ unset)
