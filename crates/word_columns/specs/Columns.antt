-- The columns of words: bit i of each word belongs to column i.
use Rattle.std.specs.Prelude.{◌≡◌, ℕ, Bool, ◌==◌, nat_lt, List, map}
use Rattle.std.specs.Int.{bit_at}
use Rattle.ternary.specs.declared.tern.Tern.{Tern}
use Rattle.ternary.specs.Tern.{may_one, may_zero}

-- the column's bit is set in the word
unfoldable pub is_in_column : ℕ → ℕ → Bool
is_in_column column word = bit_at word column == 1

-- the column's bits of words
abbrev pub column_bits : ℕ → List ℕ → List Bool
column_bits column words = map (is_in_column column) words

-- the word has the bits of the first columns, so many
abbrev pub AreUsed : ℕ → ℕ → Type 0
AreUsed columns used = (column : ℕ) → is_in_column column used ≡ nat_lt column columns

-- in this column the words are the rails of these states, "may be 1" and "may be 0"; X has both
pub record AreRailsIn (column : ℕ) (hi lo : List ℕ) (states : List Tern) : Type 0 where
  pub ones : column_bits column hi ≡ map may_one states
  pub zeros : column_bits column lo ≡ map may_zero states
