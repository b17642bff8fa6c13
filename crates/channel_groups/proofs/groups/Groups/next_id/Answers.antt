-- The slot holds a group, or no id is left.
use Rattle.std.proofs.Common.{◌≡◌, inl, inr, Some, None, sym, ap, subst, ◌∙◌, arith}
use Rattle.std.specs.Prelude.{find, nat_le, option_map}
use Rattle.std.proofs.lemmas.Bool.{cases_lt}
use Rattle.std.proofs.lemmas.List.{get_or_past}
use Rattle.group_meaning.specs.Groups.{id_of}
use Rattle.channel_groups.specs.Grouping.{GroupsData, IsId, held, slot_at}
use Rattle.channel_groups.proofs.HeldLemmas.{next_id_found, no_next_id, IsId-slot}
use Rattle.channel_groups.proofs.groups.Groups.next_id.Goals as goal

pub loop-node-preserved : goal.loop-node-preserved
loop-node-preserved c = λ j low below.
    let slots = c.self.inside.held.slots.items in
    elim (cases_lt j c.loop-node.node) [
      | inl before ↦ c.loop-node.invariant j low before
      | inr last ↦
          let same : j ≡ c.loop-node.node = omega arith in
          ap (slot_at slots) same ∙ sym c.slot.ensures ∙ ap (option_map (λ group. group.now)) c.in_default.is
    ]

pub returns-in-Some : goal.returns-in-Some
returns-in-Some c =
    let classes = c.self.inside.held.classes.items in
    let slots = c.self.inside.held.slots.items in
    let node = c.loop-node.node in
    let group = c.in-Some.group.now in
    let held_now = c.self.invariant.held in
    let at : slot_at slots node ≡ Some group = sym c.slot.ensures ∙ ap (option_map (λ group. group.now)) c.in-Some.is in
    let found = ap (λ (m : GroupsData). find (λ group. nat_le c.args.from (id_of group)) m.groups) (sym c.self.view_is)
    ∙ next_id_found classes slots held_now c.args.from node group at c.loop-node.auto.node c.loop-node.invariant in
    let id = c.id.ensures ∙ (held_now.own node group at).0 in
    record {
      value = ap Some c.id.ensures ∙ sym (ap (option_map id_of) found);
      id =
          subst (λ (m : GroupsData). IsId m.groups c.id.result.node) c.self.view_is
          (subst (IsId (held slots)) (sym id) (IsId-slot classes slots held_now node group at));
    }

pub returns : goal.returns
returns c =
    let classes = c.self.inside.held.classes.items in
    let slots = c.self.inside.held.slots.items in
    let found = ap (λ (m : GroupsData). find (λ group. nat_le c.args.from (id_of group)) m.groups) (sym c.self.view_is)
    ∙ no_next_id classes slots c.self.invariant.held c.args.from
    (λ j low.
    elim (cases_lt j c.loop-node.node) [
      | inl before ↦ c.loop-node.invariant j low before
      | inr past ↦
          get_or_past slots j None (omega (arith, past, c.loop-node-test.false, c.len-node-end.ensures, c.self.inside.held.slots.ok))
    ]) in
    record { value = sym (ap (option_map id_of) found); id = tt }
