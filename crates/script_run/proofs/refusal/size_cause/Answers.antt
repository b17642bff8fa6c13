-- The group's least node has a name, by which it is told.
use Rattle.std.proofs.Common.{inl, inr, subst}
use Rattle.circuit_texts.specs.declared.texts.BuildFault.{BuildFault}
use Rattle.circuit_texts.specs.Sizes.{TellsRefused}
use Rattle.run_ends.proofs.SizeLemmas.{node-inside, no_want, nodes_named, switches_named}
use Rattle.script_run.proofs.refusal.size_cause.Goals as goal

pub name_of-requires : goal.name_of-requires
name_of-requires c =
    node-inside c.args.circuit.now.graph c.args.size c.in-GroupNodes.node c.in-GroupNodes.count (inr c.requires) (inl c.in-GroupNodes.is)

pub name_of-requires-in-GroupSwitches : goal.name_of-requires-in-GroupSwitches
name_of-requires-in-GroupSwitches c =
    node-inside c.args.circuit.now.graph c.args.size c.in-GroupSwitches.node c.in-GroupSwitches.count (inr c.requires) (inr c.in-GroupSwitches.is)

pub unreachable-requires : goal.unreachable-requires
unreachable-requires c =
    no_want c.requires.0 c.args.circuit.now
    (subst (λ (size : BuildFault). TellsRefused c.requires.0 c.args.circuit.now.graph size) c.in-NoMemory.is c.requires.1)

pub returns-in-GroupNodes : goal.returns-in-GroupNodes
returns-in-GroupNodes c =
    nodes_named c.args.circuit.now c.args.size c.in-GroupNodes.node c.in-GroupNodes.count c.name_of.result.now c.in-GroupNodes.is c.name_of.ensures.name

pub returns-in-GroupSwitches : goal.returns-in-GroupSwitches
returns-in-GroupSwitches c =
    switches_named c.args.circuit.now c.args.size c.in-GroupSwitches.node c.in-GroupSwitches.count c.name_of-in-GroupSwitches.result.now
    c.in-GroupSwitches.is c.name_of-in-GroupSwitches.ensures.name
