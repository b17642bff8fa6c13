-- The letters are put side by side with the nodes.
use Rattle.std.proofs.Common.{ℕ, List, All, ap, subst, sym, ◌∙◌}
use Rattle.std.specs.Prelude.{zip}
use Rattle.truth_parts.proofs.KeptLemmas.{passed_on}
use Rattle.vector_values.specs.Values.{Letter}
use Rattle.symbol_giving.specs.declared.letters.SymbolLetter.{SymbolLetter}
use Rattle.symbol_giving.specs.Letters.{IsLetterOf, pairs_in}
use Rattle.symbol_giving.proofs.LetterLemmas.{zipped_in, zipped_own}
use Rattle.symbol_giving.proofs.items.item_letters.Goals as goal

pub returns-in_err-letters-clause-spent : goal.returns-in_err-letters-clause-spent
returns-in_err-letters-clause-spent c = passed_on _ c.from_residual.result _ c.from_residual.ensures.1 c.in_err-letters.ensures.spent

pub returns-in-Ok-clause-letters : goal.returns-in-Ok-clause-letters
returns-in-Ok-clause-letters c = λ column inside.
    let stage = c.letters_in_order.new.session.stage in
    let letters = c.in_ok-letters.letters.items in
    let nodes = c.args.nodes.now in
    ap (λ (pairs : List (ℕ × SymbolLetter)). pairs_in stage pairs column) (rw c.deref.ensures.value at c.in-Ok.ensures)
    ∙ zipped_in stage column nodes letters
    ∙ ap (λ (list : List Letter). zip nodes list) (c.in_ok-letters.ensures.letters column inside)

pub returns-in-Ok-clause-own : goal.returns-in-Ok-clause-own
returns-in-Ok-clause-own c =
    let stage = c.letters_in_order.new.session.stage in
    subst (λ (pairs : List (ℕ × SymbolLetter)). All (λ (pair : ℕ × SymbolLetter). IsLetterOf stage pair.1) pairs)
    (sym (rw c.deref.ensures.value at c.in-Ok.ensures)) (zipped_own stage c.args.nodes.now c.in_ok-letters.letters.items c.in_ok-letters.ensures.own)

pub returns-clause-spent : goal.returns-clause-spent
returns-clause-spent c = λ is. absurd (cc)
