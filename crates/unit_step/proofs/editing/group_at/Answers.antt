-- The group with the id of the group of a node is the group of the node.
use Rattle.std.proofs.Common.{sym}
use Rattle.machine_laws.proofs.RenewingLemmas.{group_by_id}
use Rattle.unit_step.proofs.editing.group_at.Goals as goal

pub returns : goal.returns
returns c =
    let (g, are) = c.requires.groups in
    sym (group_by_id g c.args.groups.now.groups are c.args.node c.in_ok-id.id.node c.group.result.now (sym c.in_ok-id.ensures.value) c.group.ensures)
