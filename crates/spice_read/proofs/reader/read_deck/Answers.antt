use Rattle.std.proofs.Common.{◌≡◌, Result, Ok, IfOk, IfErr, subst}
use Rattle.netlist.specs.Circuits.{CircuitData}
use Rattle.spice_cards.specs.declared.fault.DeckRefusal.{DeckRefusal}
use Rattle.ternary.specs.Unmade.{IsFault}
use Rattle.spice_read.proofs.ReaderLemmas.{circuit-is, circuit-read, circuit-visible, fault-read}
use Rattle.spice_read.proofs.reader.read_deck.Goals as goal

pub returns-in-Err-clause-refused : goal.returns-in-Err-clause-refused
returns-in-Err-clause-refused c =
    fault-read c.args.text.now c.in-Err.fault c.in-Err.ensures.refused

pub returns-clause-ok : goal.returns-clause-ok
returns-clause-ok c =
    subst (λ (m : Result CircuitData DeckRefusal). IfOk c.read_parts.result (λ circuit. m ≡ Ok circuit))
    (circuit-read c.args.text.now c.in-Ok.deck c.in-Ok.ensures.ok)
    c.read_parts.ensures.ok

pub returns-clause-refused : goal.returns-clause-refused
returns-clause-refused c =
    subst (λ (m : Result CircuitData DeckRefusal). IfErr c.read_parts.result (IsFault m))
    (circuit-read c.args.text.now c.in-Ok.deck c.in-Ok.ensures.ok)
    c.read_parts.ensures.refused

pub returns-clause-circuit : goal.returns-clause-circuit
returns-clause-circuit c = circuit-is c.read_parts.result c.args.text.now (returns-clause-ok c)

pub returns-clause-visible : goal.returns-clause-visible
returns-clause-visible c = circuit-visible c.read_parts.result c.args.text.now (returns-clause-ok c)
