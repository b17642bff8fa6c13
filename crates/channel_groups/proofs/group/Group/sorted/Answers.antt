-- There is a member.
use Rattle.std.proofs.Common.{arith}
use Rattle.std.proofs.lemmas.List.Elements.{Contains-get_or}
use Rattle.channel_groups.proofs.group.Group.sorted.Goals as goal

pub invariant_of-result : goal.invariant_of-result
invariant_of-result c =
    let there = c.ascending.ensures.all _ (rw (← c.in_ok-from_slice.ensures.items) at (Contains-get_or c.args.members.now 0 0 c.requires)) in
    omega (arith, there.1)
