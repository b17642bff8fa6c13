-- The group's least node has a name, by which it is told.
use Rattle.std.proofs.Common.{inl, inr}
use Rattle.run_ends.specs.Ends.{status_of}
use Rattle.run_ends.proofs.SizeLemmas.{node-inside, told_nodes, told_switches}
use Rattle.run_ends.proofs.refusal.refuse_size.Goals as goal

pub name_of-name-requires : goal.name_of-name-requires
name_of-name-requires g c = node-inside c.args.circuit.now.graph c.args.fault c.in-GroupNodes.node c.in-GroupNodes.count c.requires (inl c.in-GroupNodes.is)

pub name_of-name-requires-in-GroupSwitches : goal.name_of-name-requires-in-GroupSwitches
name_of-name-requires-in-GroupSwitches g c =
    node-inside c.args.circuit.now.graph c.args.fault c.in-GroupSwitches.node c.in-GroupSwitches.count c.requires (inr c.in-GroupSwitches.is)

pub returns-in-GroupNodes-clause-told : goal.returns-in-GroupNodes-clause-told
returns-in-GroupNodes-clause-told g c = λ large refused.
    told_nodes c.args.circuit.now c.args.place (status_of c.args.end) c.args.fault c.in-GroupNodes.node c.in-GroupNodes.count c.name_of-name.result.now
    large refused c.name_of-name.ensures.name (g.S.Sink.written c.args.out.now) (g.S.Sink.written c.refuse_named.new.out) c.refuse_named.result
    c.in-GroupNodes.is c.refuse_named.ensures.told

pub returns-in-GroupSwitches-clause-told : goal.returns-in-GroupSwitches-clause-told
returns-in-GroupSwitches-clause-told g c = λ large refused.
    told_switches c.args.circuit.now c.args.place (status_of c.args.end) c.args.fault c.in-GroupSwitches.node c.in-GroupSwitches.count
    c.name_of-name-in-GroupSwitches.result.now large refused c.name_of-name-in-GroupSwitches.ensures.name (g.S.Sink.written c.args.out.now)
    (g.S.Sink.written c.refuse_named-in-GroupSwitches.new.out) c.refuse_named-in-GroupSwitches.result c.in-GroupSwitches.is
    c.refuse_named-in-GroupSwitches.ensures.told
