-- Words that agree in the used columns.
use Rattle.std.proofs.Common.{◌≡◌, ◌↔◌, ℕ, zero, suc, ◌<◌, ◌==◌, Bool, true, false, ◌&&◌, bit_and, refl, sym, ap, ◌∙◌, true≢false, arith}
use Rattle.std.specs.Prelude.{bit_xor}
use Rattle.std.specs.Int.{bit_at}
use Rattle.std.proofs.lemmas.Nat.{and_le_r}
use Rattle.std.proofs.lemmas.Nat.Bits.{same_from_bits_below, bit_at-zero, bit_at-lt}
use Rattle.word_columns.specs.Columns.{is_in_column}
use Rattle.word_columns.proofs.ColumnLemmas.{turn, column-and, column-xor, column-none}

-- a bit that isn't 1 is 0
unset : (x : ℕ) → x < 2 → (x == 1) ≡ false → x ≡ 0
unset zero small unset_bit = refl
unset (suc zero) small unset_bit = absurd (true≢false unset_bit)
unset (suc (suc x)) small unset_bit = absurd (omega arith)

-- a word that holds in none of 64 columns is 0
word-never : (word : ℕ) → word < 18446744073709551616 → ((column : ℕ) → column < 64 → is_in_column column word ≡ false) → word ≡ 0
unfolding is_in_column
word-never word small none =
    same_from_bits_below 64 word 0 small (omega arith)
    (λ i inside. unset (bit_at word i) (bit_at-lt word i) (none i inside) ∙ sym (bit_at-zero i))

-- of two bits none is turned by the other in a used column exactly if they are the same there
same_bits : (x y u : Bool) → (turn x y && u) ≡ false → u ≡ true → x ≡ y
same_bits true true true none used = refl
same_bits true false true none used = absurd (true≢false none)
same_bits false true true none used = absurd (true≢false none)
same_bits false false true none used = refl
same_bits x y false none used = absurd (true≢false (sym used))

not_turned : (x y u : Bool) → (u ≡ true → x ≡ y) → (turn x y && u) ≡ false
not_turned true true true same = refl
not_turned true true false same = refl
not_turned true false true same = absurd (true≢false (same refl))
not_turned true false false same = refl
not_turned false true true same = absurd (true≢false (sym (same refl)))
not_turned false true false same = refl
not_turned false false true same = refl
not_turned false false false same = refl

-- the used columns in which words differ
column-differs : (column a b used : ℕ) → is_in_column column (bit_and (bit_xor a b) used) ≡ (turn (is_in_column column a) (is_in_column column b) && is_in_column column used)
column-differs column a b used = column-and column (bit_xor a b) used ∙ ap (λ bit. bit && is_in_column column used) (column-xor column a b)

-- no used bit differs exactly if the words agree in the used columns
pub words-agree : (a b used : ℕ) → used < 18446744073709551616 →
    (bit_and (bit_xor a b) used ≡ 0) ↔ ((column : ℕ) → column < 64 → is_in_column column used ≡ true → is_in_column column a ≡ is_in_column column b)
words-agree a b used small = (
  λ none column inside is.
      same_bits (is_in_column column a) (is_in_column column b) (is_in_column column used) (sym (column-differs column a b used) ∙ ap (is_in_column column) none ∙ column-none column) is,
  λ alike.
      word-never (bit_and (bit_xor a b) used) (omega (arith, small, and_le_r (bit_xor a b) used))
      (λ column inside. column-differs column a b used
      ∙ not_turned (is_in_column column a) (is_in_column column b) (is_in_column column used) (alike column inside)),
)
