use Rattle.std.proofs.Common.{◌∙◌}
use Rattle.netlist.proofs.NetlistLemmas.{HasTerminals, with_wires-wired, wire_fault-HasTerminals}
use Rattle.netlist.proofs.circuit.Circuit.rewire.Goals as goal

-- the names are in use if the switch is wired
wired : (c : goal.In-Ok) → HasTerminals c.args.self.now c.self.inside.graph c.self.inside.names c.terminals.new.self c.self.inside.profile
    c.args.gate.now c.args.source.now c.args.drain.now c.in_ok-nodes.nodes
wired c = record { whole = c.self.view_is; counted = c.self.invariant.counted; made = c.in_ok-nodes.ensures.ok; nodes = c.in_ok-nodes.ensures.nodes }

pub returns-in-Ok-clause-ok : goal.returns-in-Ok-clause-ok
returns-in-Ok-clause-ok c =
    with_wires-wired c.put_wired.new.graph c.args.number c.nodes.result c.in-Some.switch (wired c) c.in-Some.ensures.value c.nodes.ensures
    c.in-Ok.ensures.ok

pub returns-in-Ok-clause-allowed : goal.returns-in-Ok-clause-allowed
returns-in-Ok-clause-allowed c =
    wire_fault-HasTerminals c.args.number c.nodes.result c.in-Some.switch (wired c) c.in-Some.ensures.value c.nodes.ensures
    ∙ c.in-Ok.ensures.allowed
