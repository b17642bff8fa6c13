-- A letter is the same under all valuations, and that of a formula is made.
use Rattle.std.proofs.Common.{◌<◌, ℕ, Some, ap, subst, sym, ◌∙◌}
use Rattle.ternary.specs.declared.tern.Tern.{Tern}
use Rattle.formula_functions.specs.Truths.{truth_of}
use Rattle.symbol_meaning.specs.Readings.{letter_under}
use Rattle.symbol_giving.specs.Letters.{IsLetterOf, letter_in, named_in}
use Rattle.symbol_giving.proofs.LetterLemmas.{only_columns, only_none, same_letter_is, same_letter_own, truth_made}
use Rattle.symbol_giving.proofs.items.item_letter.Goals as goal

pub returns-in-Letter-clause-only : goal.returns-in-Letter-clause-only
returns-in-Letter-clause-only c = only_none c.args.session.now

pub returns-in-Letter-clause-letter : goal.returns-in-Letter-clause-letter
returns-in-Letter-clause-letter c = λ column inside.
    let stage = c.args.session.now.stage in
    ap (letter_in stage column) c.same_letter.ensures ∙ same_letter_is stage column c.in-Letter.letter
    ∙ sym (ap (letter_under (named_in stage c.args.table.now column)) c.in-Letter.is)

pub returns-in-Letter-clause-own : goal.returns-in-Letter-clause-own
returns-in-Letter-clause-own c =
    let stage = c.args.session.now.stage in
    subst (IsLetterOf stage) (sym c.same_letter.ensures) (same_letter_own stage c.in-Letter.letter)

pub returns-in-Ok-clause-letter : goal.returns-in-Ok-clause-letter
returns-in-Ok-clause-letter c = λ column inside.
    let values = named_in c.args.session.now.stage c.args.table.now column in
    ap (λ (state : Tern). Some state) (rw c.parts.ensures.all at c.in-Ok.ensures.letter column inside)
    ∙ sym (ap (letter_under values) c.in-Formula.is)

pub returns-in-Ok-clause-own : goal.returns-in-Ok-clause-own
returns-in-Ok-clause-own c =
    let old = c.args.session.now in
    let new = c.formula_letters.new.session in
    let truth = λ (column : ℕ). truth_of (named_in old.stage c.args.table.now column) c.parts.result.now in
    truth_made new.stage c.in-Ok.given truth c.in-Ok.ensures.own
    (λ column inside. c.in-Ok.ensures.letter column (subst (λ (n : ℕ). column < n) (only_columns old new c.formula_letters.ensures.only) inside))
