-- The group with a least node is the one that has it as a member.
use Rattle.std.proofs.Common.{◌≡◌, Some, None, ◌∙◌, arith}
use Rattle.machine_laws.proofs.FinishingGroups.{group_of_member, node_inside}
use Rattle.unit_step.proofs.waking.id_at.Goals as goal

pub group_of-requires : goal.group_of-requires
group_of-requires c =
    omega (arith, node_inside c.args.graph.now c.args.groups.now.groups c.requires.groups.are c.args.node c.requires.id, c.requires.groups.nodes)

pub unreachable-requires : goal.unreachable-requires
unreachable-requires c =
    let found = group_of_member c.args.graph.now c.args.groups.now.groups c.requires.groups.are c.args.node c.requires.id in
    let none : None ≡ Some c.args.node = c.in-None.ensures.value ∙ found in
    absurd cc

pub returns : goal.returns
returns c =
    let found = group_of_member c.args.graph.now c.args.groups.now.groups c.requires.groups.are c.args.node c.requires.id in
    let same : Some c.in-Some.id.node ≡ Some c.args.node = c.in-Some.ensures.value ∙ found in
    cc
