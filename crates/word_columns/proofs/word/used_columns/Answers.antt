-- The ones that are left of a word of ones.
use Rattle.std.proofs.Common.{◌≡◌, ◌-◌, ◌/◌, ◌^◌, inl, inr, ◌==◌, sym, ap, ◌∙◌, arith}
use Rattle.std.specs.Int.{bit_at}
use Rattle.std.proofs.lemmas.Bool.{cases_lt, lt-ltb, le-ltb}
use Rattle.std.proofs.lemmas.Nat.Bits.{ones_shr, bit_at_ones, bit_at_ones_above}
use Rattle.word_columns.specs.Columns.{is_in_column}
use Rattle.word_columns.proofs.word.used_columns.Goals as goal

pub returns : goal.returns
unfolding is_in_column
returns c column =
    let columns = c.args.columns in
    let shift : columns ≡ 64 - (64 - columns) = omega (arith, c.requires.few) in
    let ones : 18446744073709551615 / 2 ^ (64 - columns) ≡ 2 ^ columns - 1 =
    ones_shr 64 (64 - columns) (omega arith) ∙ ap (λ n. 2 ^ n - 1) (sym shift) in
    elim (cases_lt column columns) [
      | inl inside ↦ ap (λ word. bit_at word column == 1) ones ∙ ap (λ bit. bit == 1) (bit_at_ones columns column inside)
          ∙ sym (lt-ltb column columns inside)
      | inr past ↦ ap (λ word. bit_at word column == 1) ones ∙ ap (λ bit. bit == 1) (bit_at_ones_above columns column past)
          ∙ sym (le-ltb column columns past)
    ]
