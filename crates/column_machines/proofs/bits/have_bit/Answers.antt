use Rattle.std.proofs.Common.{◌≡◌, ◌<◌, ℕ, true, nat_eq, bit_and, sym, ◌∙◌, eqb-true}
use Rattle.std.proofs.lemmas.Bool.{OnTrue_from}
use Rattle.word_columns.specs.Columns.{is_in_column}
use Rattle.column_machines.proofs.ColumnLemmas.{column-all_set, column-none_set}
use Rattle.column_machines.proofs.bits.have_bit.Goals as goal

pub returns-then-set : goal.returns-then-set
returns-then-set c =
    let word = c.args.word in
    let used = c.args.used in
    let all : nat_eq (bit_and word used) used ≡ true → (column : ℕ) → column < 64 → is_in_column column used ≡ true →
    is_in_column column word ≡ c.args.set =
    λ same column few is. column-all_set word used (eqb-true (bit_and word used) used same) column is ∙ sym c.if-set.true in
    OnTrue_from _ _ all

pub returns-else-set : goal.returns-else-set
returns-else-set c =
    let word = c.args.word in
    let used = c.args.used in
    let none : nat_eq (bit_and word used) 0 ≡ true → (column : ℕ) → column < 64 → is_in_column column used ≡ true →
    is_in_column column word ≡ c.args.set =
    λ same column few is. column-none_set word used (eqb-true (bit_and word used) 0 same) column is ∙ sym c.if-set.false in
    OnTrue_from _ _ none
