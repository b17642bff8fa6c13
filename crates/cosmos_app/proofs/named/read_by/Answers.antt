-- What is so of its circuit is so where its refusal is one of a netlist or a deck.
use Rattle.netlist.specs.Circuits.{HasVisibleNames}
use Rattle.cosmos_app.specs.declared.named.CircuitRefusal.TheVariants.{Deck, Net}
use Rattle.cosmos_app.proofs.NetLemmas.{either_circuit}
use Rattle.cosmos_app.proofs.named.read_by.Goals as goal

pub returns-in_ok-cards-clause-visible : goal.returns-in_ok-cards-clause-visible
returns-in_ok-cards-clause-visible g c = either_circuit Deck HasVisibleNames c.in_ok-cards.cards c.of_deck.result c.of_deck.ensures c.in_ok-cards.ensures.visible

pub returns-in_ok-lines-clause-visible : goal.returns-in_ok-lines-clause-visible
returns-in_ok-lines-clause-visible g c = either_circuit Net HasVisibleNames c.in_ok-lines.lines c.of_net.result c.of_net.ensures c.in_ok-lines.ensures.visible
