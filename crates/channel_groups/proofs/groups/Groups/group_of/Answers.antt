-- The group of a node, and a node without one.
use Rattle.std.proofs.Common.{◌≡◌, Some, None, sym, ap, subst, ◌∙◌, rules}
use Rattle.std.specs.Prelude.{find, option_map}
use Rattle.group_meaning.specs.Groups.{id_of}
use Rattle.channel_groups.specs.Grouping.{GroupsData, IsId, has_member, held, group_at_node}
use Rattle.channel_groups.proofs.HeldLemmas.{find_member, find_no_member, IsId-slot}
use Rattle.channel_groups.proofs.StoreLemmas.{group-at_node, no_class-at_node}
use Rattle.channel_groups.proofs.groups.Groups.group_of.Goals as goal

pub returns-in_err-group-clause-value : goal.returns-in_err-group-clause-value
returns-in_err-group-clause-value c =
    let classes = c.self.inside.held.classes.items in
    let slots = c.self.inside.held.slots.items in
    let node = c.args.node in
    let at : group_at_node classes slots node ≡ None = sym c.group_of.ensures ∙ ap (option_map (λ group. group.now)) c.in_err-group.was in
    let none = find_no_member classes slots c.self.invariant.held node (no_class-at_node classes slots node c.self.invariant.held at) in
    let found = ap (λ (m : GroupsData). find (has_member node) m.groups) (sym c.self.view_is) ∙ none in
    rw found (search rules)

pub returns : goal.returns
returns c =
    let classes = c.self.inside.held.classes.items in
    let slots = c.self.inside.held.slots.items in
    let node = c.args.node in
    let group = c.in_ok-group.group.now in
    let held_now = c.self.invariant.held in
    let at : group_at_node classes slots node ≡ Some group = sym c.group_of.ensures ∙ ap (option_map (λ group. group.now)) c.in_ok-group.was in
    let there = group-at_node classes slots node group held_now at in
    let found = ap (λ (m : GroupsData). find (has_member node) m.groups) (sym c.self.view_is)
    ∙ find_member classes slots held_now node there.0 group (held_now.class there.0 node group there.1 there.2) there.1 in
    let id = c.id.ensures ∙ (held_now.own there.0 group there.1).0 in
    record {
      value = ap Some c.id.ensures ∙ sym (ap (option_map id_of) found);
      id =
          subst (λ (m : GroupsData). IsId m.groups c.id.result.node) c.self.view_is
          (subst (IsId (held slots)) (sym id) (IsId-slot classes slots held_now there.0 group there.1));
    }
