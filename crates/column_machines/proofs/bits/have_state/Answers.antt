-- The node has the state's rails in each used column.
use Rattle.std.proofs.Common.{◌≡◌, ◌<◌, ℕ, true, ap₂, ◌∙◌}
use Rattle.std.proofs.lemmas.Bool.{OnTrue_from, OnTrue_at}
use Rattle.word_columns.specs.Columns.{is_in_column}
use Rattle.column_machines.specs.Columns.{state_in, state_with}
use Rattle.column_machines.proofs.ColumnLemmas.{state_with-rails}
use Rattle.column_machines.proofs.bits.have_state.Goals as goal

pub returns : goal.returns
returns c =
    let used = c.args.used in
    let ones : (column : ℕ) → column < 64 → is_in_column column used ≡ true → is_in_column column c.args.hi ≡ c.may_one.result =
    OnTrue_at c.if-not-have_bit.false c.have_bit.ensures in
    let all : c.have_bit-2.result ≡ true → (column : ℕ) → column < 64 → is_in_column column used ≡ true → state_in column (c.args.hi, c.args.lo) ≡ c.args.state =
    λ set column few is.
    let zeros : (column : ℕ) → column < 64 → is_in_column column used ≡ true → is_in_column column c.args.lo ≡ c.may_zero.result = OnTrue_at set c.have_bit-2.ensures in
    ap₂ state_with (ones column few is ∙ c.may_one.ensures) (zeros column few is ∙ c.may_zero.ensures) ∙ state_with-rails c.args.state in
    OnTrue_from _ _ all
