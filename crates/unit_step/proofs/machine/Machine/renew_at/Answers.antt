-- The node has a part, or its group gets one, or it has no group.
use Rattle.std.proofs.Common.{inl, inr, length, refl, sym, ap, subst, arith}
use Rattle.machine_laws.specs.Machines.{MachineData}
use Rattle.machine_laws.specs.Seating.{Renews}
use Rattle.machine_laws.proofs.ClearingLemmas.{on_ok}
use Rattle.machine_laws.proofs.RenewingLemmas.{found_group, none_found, group_in, members_inside, members_once, outside_none}
use Rattle.machine_parts.proofs.OwnerLemmas.{owner_has, no_owner}
use Rattle.unit_step.proofs.machine.Machine.renew_at.Goals as goal

pub returns-then-node-nodes-clause-ok : goal.returns-then-node-nodes-clause-ok
returns-then-node-nodes-clause-ok c =
    inl (refl, inr (outside_none c.args.graph.now c.args.groups.now.groups c.requires.groups.are c.args.node (omega (arith, c.if-node-nodes.true, c.nodes.ensures))))

pub returns-in-Some-clause-ok : goal.returns-in-Some-clause-ok
returns-in-Some-clause-ok c =
    let has = owner_has c.self.inside.body.parts.items c.args.self.now.parts (length c.self.inside.body.state.items) c.self.inside.body.owners.items c.deref.result.now
    c.self.invariant.0.own (ap (λ (m : MachineData). m.parts) c.self.view_is) c.deref.ensures.value c.args.node c.in-Some._owner c.in-Some.ensures in
    inl (refl, inl (c.in-Some._owner, has))

pub renew-requires-clause-some : goal.renew-requires-clause-some
renew-requires-clause-some c =
    let (there, member) = found_group c.args.graph.now c.args.groups.now.groups c.requires.groups.are c.args.node c.in-Some-group_at.group.now (sym c.in-Some-group_at.ensures) in
    let is_group = group_in c.args.graph.now c.args.groups.now.groups c.requires.groups.are c.in-Some-group_at.group.now there in
    rw c.members.ensures is_group.some

pub renew-requires-clause-inside : goal.renew-requires-clause-inside
renew-requires-clause-inside c =
    let (there, member) = found_group c.args.graph.now c.args.groups.now.groups c.requires.groups.are c.args.node c.in-Some-group_at.group.now (sym c.in-Some-group_at.ensures) in
    let is_group = group_in c.args.graph.now c.args.groups.now.groups c.requires.groups.are c.in-Some-group_at.group.now there in
    rw (c.members.ensures, c.requires.counted) (members_inside c.args.graph.now c.in-Some-group_at.group.now is_group)

pub renew-requires-clause-once : goal.renew-requires-clause-once
renew-requires-clause-once c =
    let (there, member) = found_group c.args.graph.now c.args.groups.now.groups c.requires.groups.are c.args.node c.in-Some-group_at.group.now (sym c.in-Some-group_at.ensures) in
    let is_group = group_in c.args.graph.now c.args.groups.now.groups c.requires.groups.are c.in-Some-group_at.group.now there in
    rw c.members.ensures (members_once c.args.graph.now c.in-Some-group_at.group.now is_group)

pub returns-in-Some-group_at-clause-ok : goal.returns-in-Some-group_at-clause-ok
returns-in-Some-group_at-clause-ok c =
    let group = c.in-Some-group_at.group.now in
    let (there, member) = found_group c.args.graph.now c.args.groups.now.groups c.requires.groups.are c.args.node group (sym c.in-Some-group_at.ensures) in
    let ownerless = no_owner c.self.inside.body.parts.items c.args.self.now.parts (length c.self.inside.body.state.items) c.self.inside.body.owners.items
    c.deref.result.now c.self.invariant.0.own (ap (λ (m : MachineData). m.parts) c.self.view_is) c.deref.ensures.value c.args.node c.in_default.ensures in
    on_ok _ _ c.renew.result
    (λ renews. inr (ownerless, (group, there, member, subst (λ members. Renews members c.args.self.now c.renew.new.self) c.members.ensures renews)))
    c.renew.ensures.ok

pub returns-in-None-clause-ok : goal.returns-in-None-clause-ok
returns-in-None-clause-ok c =
    inl (refl, inr (none_found c.args.graph.now c.args.groups.now.groups c.requires.groups.are c.args.node (sym c.in-None.ensures)))
