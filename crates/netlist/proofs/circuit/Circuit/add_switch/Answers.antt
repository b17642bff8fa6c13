use Rattle.std.proofs.Common.{◌∙◌, subst, sym}
use Rattle.netlist.specs.Faults.{IsAnswered}
use Rattle.netlist.proofs.NetlistLemmas.{HasTerminals, add_fault-HasTerminals, with_transistor-wired}
use Rattle.netlist.proofs.circuit.Circuit.add_switch.Goals as goal
use Rattle.netlist.proofs.circuit.Circuit.add_switch.Goals.{In_ok-terminals}

-- the names are in use, for these nodes
named : (c : In_ok-terminals) → HasTerminals c.args.self.now c.self.inside.graph c.self.inside.names c.terminals.new.self c.self.inside.profile
    c.args.gate.now c.args.source.now c.args.drain.now c.in_ok-terminals.terminals
named c = record { whole = c.self.view_is; counted = c.self.invariant.counted; made = c.in_ok-terminals.ensures.ok; nodes = c.in_ok-terminals.ensures.nodes }

pub returns-in-Ok-clause-ok : goal.returns-in-Ok-clause-ok
returns-in-Ok-clause-ok c =
    with_transistor-wired c.wire.new.graph c.args.kind c.args.strength c.in-Some.level c.nodes.result (named (goal.at.returns-in-Ok-clause-ok c).In_ok-terminals) c.in-Some.ensures.value.1
    c.nodes.ensures c.in-Ok.ensures.ok

pub returns-in-Ok-clause-allowed : goal.returns-in-Ok-clause-allowed
returns-in-Ok-clause-allowed c =
    add_fault-HasTerminals c.args.strength c.nodes.result (named (goal.at.returns-in-Ok-clause-allowed c).In_ok-terminals) c.in-Some.ensures.value.0 c.nodes.ensures ∙ c.in-Ok.ensures.allowed

pub returns-in-Err-clause-refused : goal.returns-in-Err-clause-refused
returns-in-Err-clause-refused c =
    subst (λ refusal. IsAnswered refusal c.in-Err.fault)
    (sym (add_fault-HasTerminals c.args.strength c.nodes.result (named (goal.at.returns-in-Err-clause-refused c).In_ok-terminals) c.in-Some.ensures.value.0 c.nodes.ensures))
    c.in-Err.ensures.refused
