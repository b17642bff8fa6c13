-- What is told of the refusal of a netlist, or of a deck, is told of the refusal.
use Rattle.std.proofs.Common.{sym, subst}
use Rattle.run_ends.specs.Ends.{IsTold}
use Rattle.cosmos_app.specs.declared.named.CircuitRefusal.{CircuitRefusal}
use Rattle.cosmos_app.specs.Named.{IsCircuitRefusal}
use Rattle.cosmos_app.proofs.named.refuse_circuit.Goals as goal

pub returns-in-Net-clause-told : goal.returns-in-Net-clause-told
returns-in-Net-clause-told g c =
    subst (λ (own : CircuitRefusal). IsTold (IsCircuitRefusal own) (g.S.Sink.written c.args.out.now) (g.S.Sink.written c.refuse_net.new.out) c.refuse_net.result)
    (sym c.in-Net.is) c.refuse_net.ensures.told

pub returns-in-Deck-clause-told : goal.returns-in-Deck-clause-told
returns-in-Deck-clause-told g c =
    subst (λ (own : CircuitRefusal). IsTold (IsCircuitRefusal own) (g.S.Sink.written c.args.out.now) (g.S.Sink.written c.refuse_deck.new.out) c.refuse_deck.result)
    (sym c.in-Deck.is) c.refuse_deck.ensures.told
