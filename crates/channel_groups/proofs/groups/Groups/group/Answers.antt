-- At an id a group stands.
use Rattle.std.proofs.Common.{◌≡◌, Some, None, sym, ap, ◌∙◌}
use Rattle.std.specs.Prelude.{option_map}
use Rattle.channel_groups.specs.Grouping.{GroupsData, IsId, held, slot_at, group_with}
use Rattle.channel_groups.proofs.HeldLemmas.{slot-from_id, group_with-slot}
use Rattle.channel_groups.proofs.groups.Groups.group.Goals as goal

pub unreachable-requires : goal.unreachable-requires
unreachable-requires c =
    let slots = c.self.inside.held.slots.items in
    let is_id : IsId (held slots) c.args.id.node = rw (← c.self.view_is) at c.requires in
    let there = slot-from_id c.self.inside.held.classes.items slots c.self.invariant.held c.args.id.node is_id in
    let none : None ≡ slot_at slots c.args.id.node =
    ap (option_map (λ group. group.now)) (sym c.in-None.is) ∙ c.slot.ensures ∙ ap (slot_at slots) c.node.ensures in
    cc (none, there.1)

pub returns : goal.returns
returns c =
    let slots = c.self.inside.held.slots.items in
    let at : slot_at slots c.args.id.node ≡ Some c.in-Some.group.now =
    ap (slot_at slots) (sym c.node.ensures) ∙ sym c.slot.ensures ∙ ap (option_map (λ group. group.now)) c.in-Some.is in
    ap (λ (m : GroupsData). group_with m.groups c.args.id.node) (sym c.self.view_is)
    ∙ group_with-slot c.self.inside.held.classes.items slots c.self.invariant.held c.args.id.node c.in-Some.group.now at
