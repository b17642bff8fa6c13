-- The name is looked up in the circuit at the end.
use Rattle.std.proofs.Common.{◌≡◌, ℕ, List, Some, None, ap, sym, ◌∙◌}
use Rattle.netlist.specs.Circuits.{CircuitData}
use Rattle.netlist.specs.Names.{node_of}
use Rattle.script_reports.proofs.ReasonedLemmas.{told_unknown, told_known}
use Rattle.script_reports.proofs.reasons.explain_name.Goals as goal

pub returns-in-Some-clause-told : goal.returns-in-Some-clause-told
returns-in-Some-clause-told g c =
    let core = c.args.session.now.core in
    let found : node_of core.circuit.names c.args.name.now ≡ Some c.in-Some.node =
    sym (c.in-Some.ensures.value ∙ ap (λ (name : List ℕ). node_of c.circuit.result.now.names name) c.as_bytes.ensures.value
    ∙ ap (λ (circuit : CircuitData). node_of circuit.names c.args.name.now) c.circuit.ensures.value) in
    told_known core c.args.name.now c.in-Some.node (g.S.Sink.written c.args.out.now) (g.S.Sink.written c.write_reasons.new.out) c.write_reasons.result
    found c.write_reasons.ensures.told

pub returns-in-None-clause-told : goal.returns-in-None-clause-told
returns-in-None-clause-told g c =
    let core = c.args.session.now.core in
    let unknown : node_of core.circuit.names c.args.name.now ≡ None =
    sym (c.in-None.ensures.value ∙ ap (λ (name : List ℕ). node_of c.circuit.result.now.names name) c.as_bytes.ensures.value
    ∙ ap (λ (circuit : CircuitData). node_of circuit.names c.args.name.now) c.circuit.ensures.value) in
    told_unknown core c.args.name.now (g.S.Sink.written c.args.out.now) (g.S.Sink.written c.refuse.new.out) c.refuse.result
    unknown c.refuse.ensures.told
