-- The node with what it is given, if its letter is one of a state.
use Rattle.std.proofs.Common.{ℕ, All, subst, sym}
use Rattle.std.proofs.lemmas.List.Elements.{All-push}
use Rattle.symbol_stage.specs.declared.given.Letters.{Letters}
use Rattle.symbol_stage.specs.Given.{GivesLetters}
use Rattle.symbol_giving.proofs.GivingLemmas.{letter_added, letter_left}
use Rattle.symbol_giving.proofs.giving.add_letter.Goals as goal

pub returns-in_default-clause-states : goal.returns-in_default-clause-states
returns-in_default-clause-states c = λ column inside.
    letter_left c.args.stage.now c.args.node c.args.letter column c.given_as.result c.args.given.now.items c.in_default.is
    (c.given_as.ensures.letter column inside)

pub returns-in-Ok-clause-own : goal.returns-in-Ok-clause-own
returns-in-Ok-clause-own c =
    subst (All (λ (pair : ℕ × Letters). GivesLetters c.args.stage.now pair.1)) (sym c.in-Ok.ensures.items)
    (All-push (λ (pair : ℕ × Letters). GivesLetters c.args.stage.now pair.1) c.args.given.now.items (c.args.node, c.in-Some.own) c.requires.own
    c.in-Some.ensures.own)

pub returns-in-Ok-clause-states : goal.returns-in-Ok-clause-states
returns-in-Ok-clause-states c = λ column inside.
    letter_added c.args.stage.now c.args.node c.args.letter column c.given_as.result c.in-Some.own c.args.given.now.items c.push.new.self.items c.in-Some.is
    (c.given_as.ensures.letter column inside) c.in-Ok.ensures.items

pub returns-in-Err-clause-spent : goal.returns-in-Err-clause-spent
returns-in-Err-clause-spent c = λ full. absurd (cc)
