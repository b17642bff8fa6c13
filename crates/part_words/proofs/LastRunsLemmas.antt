-- The array of the last runs: a column that begins with the constants and the rails of states, and the array after a run.
use Rattle.std.proofs.Common.{◌≡◌, ℕ, ◌+◌, ◌*◌, ◌<◌, ◌≤◌, Bool, true, false, List, [], ◌∷◌, ◌++◌, length, take, get_or, set, sym, ap, ap₂, ◌∙◌, arith}
use Rattle.std.proofs.lemmas.List.{take_more, set-get_or}
use Rattle.ternary.specs.declared.tern.Tern.{Tern}
use Rattle.straight_code.specs.Code.{CodeData, results}
use Rattle.straight_code.specs.Flat.{flat_values}
use Rattle.word_columns.specs.Columns.{is_in_column, column_bits}
use Rattle.word_columns.proofs.ColumnLemmas.{column_bits-at, column_bits-take, length-column_bits}
use Rattle.word_columns.proofs.RunLemmas.{rails_in_column}
use Rattle.part_words.specs.LastRuns.{IsRunOf}
use Rattle.part_words.specs.Members.{HasState}

-- one word more of a column
column_bits-more : (column : ℕ) (words : List ℕ) (k : ℕ) → k < length words →
    take (k + 1) (column_bits column words) ≡ take k (column_bits column words) ++ is_in_column column (get_or words k 0) ∷ []
column_bits-more column words k inside =
    take_more (column_bits column words) k false (omega (arith, inside, length-column_bits column words))
    ∙ ap (λ bit. take k (column_bits column words) ++ bit ∷ []) (column_bits-at column words k inside)

-- a column that begins with the constants
pub constants_from : (column : ℕ) (words : List ℕ) → 2 ≤ length words → is_in_column column (get_or words 0 0) ≡ false →
    is_in_column column (get_or words 1 0) ≡ true → take 2 (column_bits column words) ≡ flat_values [] []
constants_from column words room first second =
    column_bits-more column words 1 (omega (arith, room))
    ∙ ap₂ (λ (front : List Bool) (bit : Bool). front ++ bit ∷ [])
    (column_bits-more column words 0 (omega (arith, room)) ∙ ap (λ bit. bit ∷ []) first) second

-- and that has the rails of one state more
pub rails_from : (column : ℕ) (input : List Tern) (state : Tern) (words : List ℕ) (j : ℕ) → 4 + 2 * j ≤ length words →
    HasState column (get_or words (2 + 2 * j) 0) (get_or words (3 + 2 * j) 0) state →
    take (2 + 2 * j) (column_bits column words) ≡ flat_values input [] →
    take (2 + 2 * (j + 1)) (column_bits column words) ≡ flat_values (input ++ state ∷ []) []
rails_from column input state words j room has so_far =
    let hi = get_or words (2 + 2 * j) 0 in
    let lo = get_or words (3 + 2 * j) 0 in
    let same : set (set words (2 + 2 * j) hi) (3 + 2 * j) lo ≡ words =
    ap (λ list. set list (3 + 2 * j) lo) (set-get_or words (2 + 2 * j) 0) ∙ set-get_or words (3 + 2 * j) 0 in
    ap (λ list. take (2 + 2 * (j + 1)) (column_bits column list)) (sym same)
    ∙ rails_in_column column input state words j hi lo room has.one has.other so_far

-- where the fronts of two arrays are one, so are those of their columns
pub front_bits : (column n : ℕ) (one other : List ℕ) → take n one ≡ take n other → take n (column_bits column one) ≡ take n (column_bits column other)
front_bits column n one other same = column_bits-take column n one ∙ (ap (column_bits column) same ∙ sym (column_bits-take column n other))

-- code ran in the array
pub IsRunOf-ran : (code : CodeData) (old new : List ℕ) → take (2 + 2 * code.inputs) new ≡ take (2 + 2 * code.inputs) old →
    ((column : ℕ) (input : List Tern) → column < 64 → length input ≡ code.inputs → take (2 + 2 * code.inputs) (column_bits column old) ≡ flat_values input [] →
    take (2 + 2 * code.inputs + length code.instructions) (column_bits column new) ≡ flat_values input (results input code.instructions)) → IsRunOf code new
IsRunOf-ran code old new front ran column input inside many begins =
    ran column input inside many (sym (front_bits column (2 + 2 * code.inputs) new old front) ∙ begins)
