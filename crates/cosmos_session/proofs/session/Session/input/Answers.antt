use Rattle.std.proofs.Common.{◌≡◌, refl, sym}
use Rattle.session_meaning.specs.Refusals.{all_named}
use Rattle.session_meaning.proofs.StayingLemmas.{session_of}
use Rattle.session_meaning.proofs.EditLemmas.{inputs_does}
use Rattle.session_meaning.proofs.ValueLemmas.{inputs-past, names-within}
use Rattle.cosmos_session.proofs.session.Session.input.Goals as goal

pub returns-in-Some-clause-quiet : goal.returns-in-Some-clause-quiet
returns-in-Some-clause-quiet g c = (rw (← c.self.view_is, ← c.items.ensures) (sym c.in-Some.ensures), refl)

pub make_inputs-requires-clause-within : goal.make_inputs-requires-clause-within
make_inputs-requires-clause-within g c =
    let core = (session_of c.self.invariant.0).core in
    let held = c.self.invariant.0.core in
    let named : c.in_ok-nodes.nodes.items ≡ all_named core.circuit core.vectors c.args.names.now = rw c.items-2.ensures at c.in_ok-nodes.ensures in
    rw (c.deref.ensures.value, named, ← c.self.view_is)
    (names-within core.circuit held.ready.netlist core.vectors held.vectors c.args.names.now)

pub make_inputs-requires-clause-past : goal.make_inputs-requires-clause-past
make_inputs-requires-clause-past g c =
    let core = (session_of c.self.invariant.0).core in
    let named : c.in_ok-nodes.nodes.items ≡ all_named core.circuit core.vectors c.args.names.now = rw c.items-2.ensures at c.in_ok-nodes.ensures in
    rw (c.deref.ensures.value, named)
    (inputs-past core.circuit core.vectors c.args.names.now (sym (rw (c.in_default.is, c.items.ensures) at c.input_refusal.ensures)))

pub returns-clause-quiet : goal.returns-clause-quiet
returns-clause-quiet g c =
    let core = (session_of c.self.invariant.0).core in
    let named : c.in_ok-nodes.nodes.items ≡ all_named core.circuit core.vectors c.args.names.now = rw c.items-2.ensures at c.in_ok-nodes.ensures in
    let allowed = sym (rw (c.in_default.is, c.items.ensures) at c.input_refusal.ensures) in
    let made = rw (c.deref.ensures.value, named, ← c.self.view_is) at c.make_inputs.ensures.made in
    rw (← c.self.view_is)
    (inputs_does core c.make_inputs.new.self.core c.args.names.now c.self.invariant.0.core.ready.states allowed made)
