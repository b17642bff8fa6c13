use Rattle.std.proofs.Common.{◌≡◌, true, sym, ◌∙◌}
use Rattle.std.specs.List.{list_all}
use Rattle.std.specs.Char.{is_ascii_digit}
use Rattle.line_words.proofs.DecimalLemmas.{decimal_of-other, result_ok-parse, read-decimal, IsUtf8-digits}
use Rattle.line_words.proofs.decimals.decimal.Goals as goal

pub returns-then-not-all_digits-clause-printed : goal.returns-then-not-all_digits-clause-printed
returns-then-not-all_digits-clause-printed c =
    read-decimal (sym (decimal_of-other c.args.word.now (sym c.all_digits.ensures ∙ c.if-not-all_digits.true)))

pub returns-in-Ok-clause-value : goal.returns-in-Ok-clause-value
returns-in-Ok-clause-value c =
    let digits : list_all is_ascii_digit c.args.word.now ≡ true = sym c.all_digits.ensures ∙ c.if-not-all_digits.false in
    let text : c.in-Ok.text.now ≡ c.args.word.now = c.in-Ok.ensures.cases.0 in
    c.ok.ensures.value ∙ result_ok-parse c.args.word.now c.parse.result digits (rw text at c.parse.ensures.value.0)

pub returns-in-Ok-clause-printed : goal.returns-in-Ok-clause-printed
returns-in-Ok-clause-printed c = read-decimal (returns-in-Ok-clause-value c)

pub returns-in-Err-clause-value : goal.returns-in-Err-clause-value
returns-in-Err-clause-value c =
    let digits : list_all is_ascii_digit c.args.word.now ≡ true = sym c.all_digits.ensures ∙ c.if-not-all_digits.false in
    absurd (c.in-Err.ensures.cases.0 (IsUtf8-digits c.args.word.now digits))

pub returns-in-Err-clause-printed : goal.returns-in-Err-clause-printed
returns-in-Err-clause-printed c = read-decimal (returns-in-Err-clause-value c)
