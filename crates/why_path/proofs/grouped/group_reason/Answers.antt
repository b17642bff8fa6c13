-- The node's group is near the node.
use Rattle.std.proofs.Common.{[]}
use Rattle.why_path.proofs.GroupedLemmas.{near_found, near_none}
use Rattle.why_path.proofs.grouped.group_reason.Goals as goal

pub near_reason-requires-clause-near : goal.near_reason-requires-clause-near
near_reason-requires-clause-near c =
    near_found c.args.graph.now c.args.groups.now.groups c.requires.groups c.args.node c.in-Some.id.node c.members-members.result.now c.switches-switches.result.now
    c.in-Some.ensures.value c.in-Some.ensures.id c.members-members.ensures c.switches-switches.ensures

pub near_reason-requires-in-None-clause-near : goal.near_reason-requires-in-None-clause-near
near_reason-requires-in-None-clause-near c =
    near_none c.args.graph.now c.args.groups.now.groups c.requires.groups c.args.node [] [] c.in-None.ensures.value
