-- Each part is stripped from the front.
use Rattle.std.proofs.Common.{◌≡◌, ◌++◌, Some, None, decimal, sym, ◌∙◌, ap}
use Rattle.std.proofs.lemmas.List.{append_cancel_left}
use Rattle.std.proofs.lemmas.Bool.Decides.{Decides-eqb}
use Rattle.std.proofs.lemmas.Slice.Eq.{strip_prefix_is}
use Rattle.linear_code.proofs.TextLemmas.{IsStripped-behind}
use Rattle.linear_code.proofs.reading.after.Goals as goal

pub returns-in_err-strip_prefix : goal.returns-in_err-strip_prefix
returns-in_err-strip_prefix c =
    rw c.from_residual.ensures (λ rest same. strip_prefix_is Decides-eqb c.args.bytes.now c.args.word.now None c.in_err-strip_prefix.ensures.cases _ same)

pub returns-in_err-strip_prefix-2 : goal.returns-in_err-strip_prefix-2
returns-in_err-strip_prefix-2 c =
    let middle = c.in_ok-strip_prefix.field-0.now in
    let number = c.as_bytes-number.result.now in
    let front : c.args.bytes.now ≡ c.args.word.now ++ middle =
    strip_prefix_is Decides-eqb c.args.bytes.now c.args.word.now (Some c.in_ok-strip_prefix.field-0) c.in_ok-strip_prefix.ensures.cases in
    let digits : number ≡ decimal c.args.number = c.as_bytes-number.ensures.value ∙ c.format.ensures.text in
    rw c.from_residual-in_err-strip_prefix-2.ensures (λ rest same.
    let behind : middle ≡ number ++ (c.args.gap.now ++ rest) =
    append_cancel_left c.args.word.now middle _ (sym front ∙ same) ∙ ap (λ word. word ++ (c.args.gap.now ++ rest)) (sym digits) in
    strip_prefix_is Decides-eqb middle number None c.in_err-strip_prefix-2.ensures.cases _ behind)

pub returns : goal.returns
returns c =
    let middle = c.in_ok-strip_prefix.field-0.now in
    let back = c.in_ok-strip_prefix-2.field-0.now in
    let number = c.as_bytes-number.result.now in
    let front : c.args.bytes.now ≡ c.args.word.now ++ middle =
    strip_prefix_is Decides-eqb c.args.bytes.now c.args.word.now (Some c.in_ok-strip_prefix.field-0) c.in_ok-strip_prefix.ensures.cases in
    let digits : number ≡ decimal c.args.number = c.as_bytes-number.ensures.value ∙ c.format.ensures.text in
    let next : middle ≡ decimal c.args.number ++ back =
    strip_prefix_is Decides-eqb middle number (Some c.in_ok-strip_prefix-2.field-0) c.in_ok-strip_prefix-2.ensures.cases ∙ ap (λ word. word ++ back) digits in
    IsStripped-behind c.args.bytes.now c.args.word.now (decimal c.args.number) c.args.gap.now middle back c.strip_prefix-3.result front next
    (strip_prefix_is Decides-eqb back c.args.gap.now c.strip_prefix-3.result c.strip_prefix-3.ensures.cases)
