-- What is gathered: a word's bits column by column, and the nodes of a map.
use Rattle.std.proofs.Common.{◌≡◌, ◌≢◌, ℕ, ◌+◌, ◌*◌, ◌<◌, ◌≤◌, Bool, false, ◌||◌, inl, inr, List, length, drop, All, Some, sym, ap, subst, ◌∙◌, arith}
use Rattle.std.specs.Prelude.{slice_get, slice_index}
use Rattle.std.proofs.lemmas.Bool.{cases_lt}
use Rattle.std.proofs.lemmas.List.{get_or-take, get_or-drop, length-take-le, length-drop}
use Rattle.std.proofs.lemmas.Option.{same_Some, slice_get_within, get_or_from_slice_get}
use Rattle.word_columns.specs.Columns.{is_in_column}
use Rattle.word_columns.proofs.ColumnLemmas.{column-none}
use Rattle.part_words.specs.Noting.{map_at}

-- the word's bits below a column are those of the parts there, and no other is set
pub record AreSet (column : ℕ) (starts : List ℕ) (word : ℕ) (bit : ℕ → Bool) : Type 0 where
  pub below : (other at : ℕ) → other < column → slice_get starts other ≡ Some at → is_in_column other word ≡ bit at
  pub past : (other : ℕ) → column ≤ other → is_in_column other word ≡ false

-- before the first column
pub AreSet-none : (starts : List ℕ) (bit : ℕ → Bool) → AreSet 0 starts 0 bit
AreSet-none starts bit = record {
  below = λ other at inside found. absurd (omega (arith, inside));
  past = λ other behind. column-none other;
}

-- the next column's bit
pub AreSet-more : (column at : ℕ) (starts : List ℕ) (word result : ℕ) (bit : ℕ → Bool) (set : Bool) →
    slice_get starts column ≡ Some at → set ≡ bit at →
    is_in_column column result ≡ (is_in_column column word || set) →
    ((other : ℕ) → other ≢ column → is_in_column other result ≡ is_in_column other word) →
    AreSet column starts word bit → AreSet (column + 1) starts result bit
AreSet-more column at starts word result bit set here is same others so_far = record {
  below = λ other there inside found.
      elim (cases_lt other column) [
        | inl before ↦ others other (λ e. absurd (omega (arith, e, before))) ∙ so_far.below other there before found
        | inr past ↦
            let columns : other ≡ column = omega (arith, inside, past) in
            let own : there ≡ at = same_Some there at (sym found ∙ (ap (slice_get starts) columns ∙ here)) in
            ap (λ k. is_in_column k result) columns
            ∙ (same ∙ (ap (λ b. b || set) (so_far.past column (omega arith)) ∙ (is ∙ ap bit (sym own))))
      ];
  past = λ other behind.
      others other (λ e. absurd (omega (arith, e, behind))) ∙ so_far.past other (omega (arith, behind));
}

module _ (nodes : List ℕ) (inputs at : ℕ) where
  -- a map has its nodes behind the place at which it begins
  pub map_at-at : (j : ℕ) → j < inputs → slice_index (map_at nodes inputs at) j ≡ slice_index nodes (at + j)
  map_at-at j inside = get_or-take inputs (drop at nodes) j 0 inside ∙ get_or-drop at nodes j 0

  pub length-map_at : at + inputs ≤ length nodes → length (map_at nodes inputs at) ≡ inputs
  length-map_at inside = length-take-le inputs (drop at nodes) (omega (arith, inside, length-drop at nodes))

-- what holds of all places holds of the place in a column
pub All-read : (IsSo : ℕ → Type 0) (starts : List ℕ) (column at : ℕ) → All IsSo starts → slice_get starts column ≡ Some at → IsSo at
All-read IsSo starts column at all found = subst IsSo (get_or_from_slice_get starts column at 0 found) (all column 0 (slice_get_within starts column at found))

-- one time more
pub times_more : (n k : ℕ) → n * (k + 1) ≡ n * k + n
times_more n k = omega arith
