-- The letters of the items go to the nodes of the name, one by one.
use Rattle.std.proofs.Common.{◌≡◌, ◌∙◌}
use Rattle.std.proofs.lemmas.Result.{IfOk-weaker}
use Rattle.session_meaning.specs.Refusals.{nodes_named}
use Rattle.symbol_giving.proofs.LetterLemmas.{only_none}
use Rattle.symbol_giving.proofs.GivingLemmas.{list_given}
use Rattle.symbol_giving.proofs.letters.list_letters.Goals as goal

pub returns-in-Ok-clause-letters : goal.returns-in-Ok-clause-letters
returns-in-Ok-clause-letters c =
    let session = c.args.session.now in
    let stage = c.item_letters.new.session.stage in
    let own = c.args.own.now in
    let named : c.deref.result.now ≡ nodes_named session.core.circuit session.core.vectors own.name =
    c.deref.ensures.value ∙ (rw (c.circuit.ensures.value, c.vectors.ensures, c.items-name.ensures) at c.in-Ok.ensures) in
    IfOk-weaker c.item_letters.result _ _
    (λ pairs are. list_given session c.args.table.now own stage c.deref.result.now c.args.items.now pairs.items c.requires.list named c.requires.given are)
    c.item_letters.ensures.letters

pub returns-in-Err-clause-only : goal.returns-in-Err-clause-only
returns-in-Err-clause-only c = only_none c.args.session.now

pub returns-in-Err-clause-spent : goal.returns-in-Err-clause-spent
returns-in-Err-clause-spent c = λ full. absurd (cc)
