-- A column's bit of a word that is made of others.
use Rattle.std.proofs.Common.{◌≡◌, ℕ, zero, suc, ◌+◌, ◌-◌, ◌%◌, ◌^◌, ◌<◌, Bool, true, false, not, ◌&&◌, ◌||◌, ◌==◌, List, length, take, get_or, set, min, max, bit_and, bit_or, w64, refl, ap, ap₂, ◌∙◌, arith}
use Rattle.std.specs.Prelude.{bit_xor}
use Rattle.std.specs.Int.{bit_at}
use Rattle.std.proofs.lemmas.Nat.Bits.{bit_at_and, bit_at_or, bit_at_xor, bit_at_not, bit_at_ones, bit_at-zero}
use Rattle.std.proofs.lemmas.List.{get_or-map, map-set, take-map, length-map}
use Rattle.ternary.specs.Tern.{may_one, may_zero}
use Rattle.straight_code.specs.Code.{settled}
use Rattle.straight_code.specs.declared.flat.StepKind.{StepKind}
use Rattle.straight_code.specs.declared.flat.StepKind.TheVariants.{Not, And, Or}
use Rattle.straight_code.specs.Flat.{kind_value}
use Rattle.word_columns.specs.Columns.{is_in_column, column_bits}
use Rattle.word_columns.specs.Words.{is_not, is_or}

-- a bit is 0 or 1
bit_small : (word column : ℕ) → bit_at word column < 2
bit_small word column = omega arith

-- ---- tests of bits

-- true if the first is turned by the second
abbrev pub turn : Bool → Bool → Bool
turn a true = not a
turn a false = a

-- what two bits give together
record AreBits (x y : ℕ) : Type 0 where
  both : (min x y == 1) ≡ ((x == 1) && (y == 1))
  either : (max x y == 1) ≡ ((x == 1) || (y == 1))
  one : ((x + y) % 2 == 1) ≡ turn (x == 1) (y == 1)

bits : (x y : ℕ) → x < 2 → y < 2 → AreBits x y
bits zero zero first second = record { both = refl; either = refl; one = refl }
bits zero (suc zero) first second = record { both = refl; either = refl; one = refl }
bits (suc zero) zero first second = record { both = refl; either = refl; one = refl }
bits (suc zero) (suc zero) first second = record { both = refl; either = refl; one = refl }
bits (suc (suc x)) y first second = absurd (omega arith)
bits x (suc (suc y)) first second = absurd (omega arith)

-- and those of two words
bits_in : (column a b : ℕ) → AreBits (bit_at a column) (bit_at b column)
bits_in column a b = bits (bit_at a column) (bit_at b column) (bit_small a column) (bit_small b column)

not-test : (x : ℕ) → x < 2 → (1 - x == 1) ≡ not (x == 1)
not-test zero one = refl
not-test (suc zero) one = refl
not-test (suc (suc x)) one = absurd (omega arith)

-- ---- words

pub column-and : (column a b : ℕ) → is_in_column column (bit_and a b) ≡ (is_in_column column a && is_in_column column b)
unfolding is_in_column
column-and column a b = ap (λ x. x == 1) (bit_at_and a b column) ∙ (bits_in column a b).both

pub column-or : (column a b : ℕ) → is_in_column column (bit_or a b) ≡ (is_in_column column a || is_in_column column b)
unfolding is_in_column
column-or column a b = ap (λ x. x == 1) (bit_at_or a b column) ∙ (bits_in column a b).either

pub column-xor : (column a b : ℕ) → is_in_column column (bit_xor a b) ≡ turn (is_in_column column a) (is_in_column column b)
unfolding is_in_column
column-xor column a b = ap (λ x. x == 1) (bit_at_xor a b column) ∙ (bits_in column a b).one

pub column-none : (column : ℕ) → is_in_column column 0 ≡ false
unfolding is_in_column
column-none column = ap (λ x. x == 1) (bit_at-zero column)

pub column-all : (column : ℕ) → column < 64 → is_in_column column 18446744073709551615 ≡ true
unfolding is_in_column
column-all column inside = ap (λ x. x == 1) (bit_at_ones 64 column inside)

pub column-not : (column word : ℕ) → word < 2 ^ 64 → column < 64 → is_in_column column (18446744073709551615 - word) ≡ not (is_in_column column word)
unfolding is_in_column
column-not column word fits inside = ap (λ x. x == 1) (bit_at_not w64 word column fits inside) ∙ not-test (bit_at word column) (bit_small word column)

-- ---- instructions and outputs

kind-table : (kind : StepKind) (a b : Bool) → turn ((a && ((b || is_not kind) || is_or kind)) || (b && is_or kind)) (is_not kind) ≡ kind_value kind a b
kind-table Not true true = refl
kind-table Not true false = refl
kind-table Not false true = refl
kind-table Not false false = refl
kind-table And true true = refl
kind-table And true false = refl
kind-table And false true = refl
kind-table And false false = refl
kind-table Or true true = refl
kind-table Or true false = refl
kind-table Or false true = refl
kind-table Or false false = refl

-- the masked form of an instruction gives its value
pub column-kind : (kind : StepKind) (column a b turned either : ℕ) → is_in_column column turned ≡ is_not kind →
    is_in_column column either ≡ is_or kind →
    is_in_column column (bit_xor (bit_or (bit_and a (bit_or (bit_or b turned) either)) (bit_and b either)) turned)
    ≡ kind_value kind (is_in_column column a) (is_in_column column b)
column-kind kind column a b turned either not or =
    column-xor column (bit_or (bit_and a (bit_or (bit_or b turned) either)) (bit_and b either)) turned
    ∙ ap₂ turn
    (column-or column (bit_and a (bit_or (bit_or b turned) either)) (bit_and b either)
    ∙ ap₂ (λ x y. x || y)
    (column-and column a (bit_or (bit_or b turned) either)
    ∙ ap (λ x. is_in_column column a && x)
    (column-or column (bit_or b turned) either
    ∙ ap₂ (λ x y. x || y) (column-or column b turned ∙ ap (λ x. is_in_column column b || x) not) or))
    (column-and column b either ∙ ap (λ x. is_in_column column b && x) or))
    not
    ∙ kind-table kind (is_in_column column a) (is_in_column column b)

high-table : (one other : Bool) → (one || not other) ≡ may_one (settled one other)
high-table true true = refl
high-table true false = refl
high-table false true = refl
high-table false false = refl

low-table : (one other : Bool) → (other || not one) ≡ may_zero (settled one other)
low-table true true = refl
low-table true false = refl
low-table false true = refl
low-table false false = refl

-- the rails of an output, X if neither is set
pub column-high : (column one other : ℕ) → other < 2 ^ 64 → column < 64 →
    is_in_column column (bit_or one (18446744073709551615 - other)) ≡ may_one (settled (is_in_column column one) (is_in_column column other))
column-high column one other fits inside =
    column-or column one (18446744073709551615 - other) ∙ ap (λ x. is_in_column column one || x) (column-not column other fits inside)
    ∙ high-table (is_in_column column one) (is_in_column column other)

pub column-low : (column one other : ℕ) → one < 2 ^ 64 → column < 64 →
    is_in_column column (bit_or other (18446744073709551615 - one)) ≡ may_zero (settled (is_in_column column one) (is_in_column column other))
column-low column one other fits inside =
    column-or column other (18446744073709551615 - one) ∙ ap (λ x. is_in_column column other || x) (column-not column one fits inside)
    ∙ low-table (is_in_column column one) (is_in_column column other)

-- ---- lists of words

-- a column's bit at a place
pub column_bits-at : (column : ℕ) (words : List ℕ) (k : ℕ) → k < length words →
    get_or (column_bits column words) k false ≡ is_in_column column (get_or words k 0)
column_bits-at column words k inside = get_or-map (is_in_column column) words k 0 false inside

-- a column's bits where one word is written
pub column_bits-set : (column : ℕ) (words : List ℕ) (k word : ℕ) →
    column_bits column (set words k word) ≡ set (column_bits column words) k (is_in_column column word)
column_bits-set column words k word = map-set (is_in_column column) words k word

pub column_bits-take : (column n : ℕ) (words : List ℕ) → take n (column_bits column words) ≡ column_bits column (take n words)
column_bits-take column n words = take-map (is_in_column column) n words

pub length-column_bits : (column : ℕ) (words : List ℕ) → length (column_bits column words) ≡ length words
length-column_bits column words = length-map words (is_in_column column)
