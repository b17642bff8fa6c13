use Rattle.std.proofs.Common.{◌≡◌, Result, Ok, IfOk, IfErr, ◌∙◌, subst}
use Rattle.spice_cards.specs.declared.fault.DeckRefusal.{DeckRefusal}
use Rattle.spice_cards.specs.Decks.{DeckCards}
use Rattle.ternary.specs.Unmade.{IsFault}
use Rattle.spice_read.proofs.ReaderLemmas.{cards-read}
use Rattle.spice_read.proofs.reader.cards_of.Goals as goal

pub returns-clause-ok : goal.returns-clause-ok
returns-clause-ok c =
    subst (λ (m : Result DeckCards DeckRefusal). IfOk c.read_cards.result (λ deck. m ≡ Ok deck))
    (cards-read c.args.text.now c.cut_line.result c.deref.result.now c.cut_line.ensures (c.deref.ensures.value ∙ c.in_ok-words.ensures))
    c.read_cards.ensures.ok

pub returns-clause-refused : goal.returns-clause-refused
returns-clause-refused c =
    subst (λ (m : Result DeckCards DeckRefusal). IfErr c.read_cards.result (IsFault m))
    (cards-read c.args.text.now c.cut_line.result c.deref.result.now c.cut_line.ensures (c.deref.ensures.value ∙ c.in_ok-words.ensures))
    c.read_cards.ensures.refused
