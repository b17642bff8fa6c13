-- The name is looked up in the circuit, and the reasons are said, or a part of them.
use Rattle.std.proofs.Common.{◌≡◌, ℕ, Option, Some, sym, ap, subst, ◌∙◌}
use Rattle.netlist.specs.Circuits.{CircuitData}
use Rattle.netlist.specs.Names.{node_of}
use Rattle.talk_run.specs.Answers.{mind_of, ExplainsName}
use Rattle.talk_run.proofs.SpokenLemmas.{says_tries, tries_right}
use Rattle.talk_run.proofs.reasons.explain.Goals as goal

pub returns-in-Ok-clause-said : goal.returns-in-Ok-clause-said
returns-in-Ok-clause-said g c analysed =
    let core = c.args.session.now.core in
    let now = mind_of core c.args.number analysed in
    let found : node_of core.circuit.names c.args.name.now ≡ Some c.in-Some.node =
    sym (c.in-Some.ensures.value ∙ ap (λ (circuit : CircuitData). node_of circuit.names c.args.name.now) c.circuit.ensures.value) in
    tries_right (ExplainsName now (node_of core.circuit.names c.args.name.now)) c.in-Ok.text.items c.args.out.now.spoken.talk c.say.new.self.spoken.talk
    c.say.result (subst (λ (known : Option ℕ). ExplainsName now known c.in-Ok.text.items) (sym found) c.in-Ok.ensures)
    (says_tries c.deref.result.now c.in-Ok.text.items c.args.out.now.spoken.talk c.say.new.self.spoken.talk c.say.result c.deref.ensures.value
    c.say.ensures.ok c.say.ensures.part)
