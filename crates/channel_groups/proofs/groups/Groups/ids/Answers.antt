-- One slot more, and each of the ids is that of a group.
use Rattle.std.proofs.Common.{◌≡◌, ◌<◌, ℕ, List, Option, None, [], ◌∷◌, ◌++◌, map, take, get_or, length, sym, ap, subst, ◌∙◌, arith}
use Rattle.std.proofs.lemmas.List.{take_all, length-map, get_or-map}
use Rattle.group_meaning.specs.Groups.{Group, id_of}
use Rattle.channel_groups.specs.declared.group.GroupId.{GroupId}
use Rattle.channel_groups.specs.Grouping.{GroupsData, IsId, held}
use Rattle.channel_groups.proofs.HeldLemmas.{ids_more, all_ids}
use Rattle.channel_groups.proofs.groups.Groups.ids.Goals as goal

pub loop-node-preserved : goal.loop-node-preserved
loop-node-preserved c =
    let slots = c.self.inside.held.slots.items in
    let i = c.loop-node.node in
    let inside : i < length slots = omega (arith, c.loop-node-test.true, c.len-node-end.ensures, c.self.inside.held.slots.ok) in
    c.in_ok-add_id.ensures
    ∙ ap (λ (slot : Option Group). map (λ (id : GroupId). id.node) c.loop-node.ids.items ++ map id_of (held (slot ∷ []))) c.slot.ensures
    ∙ ap (λ (front : List ℕ). front ++ map id_of (held (get_or slots i None ∷ []))) c.loop-node.invariant
    ∙ sym (ids_more slots i inside)

pub returns : goal.returns
returns c =
    let classes = c.self.inside.held.classes.items in
    let slots = c.self.inside.held.slots.items in
    let ids = c.loop-node.ids.items in
    let all : take c.loop-node.node slots ≡ slots =
    take_all c.loop-node.node slots (omega (arith, c.loop-node-test.false, c.len-node-end.ensures, c.self.inside.held.slots.ok)) in
    let same : map (λ (id : GroupId). id.node) ids ≡ map id_of (held slots) =
    c.loop-node.invariant ∙ ap (λ (xs : List (Option Group)). map id_of (held xs)) all in
    record {
      ids = same ∙ ap (λ (m : GroupsData). map id_of m.groups) c.self.view_is;
      all = λ k d inside.
          subst (λ (m : GroupsData). IsId m.groups (get_or ids k d).node) c.self.view_is
          (subst (IsId (held slots)) (get_or-map (λ (id : GroupId). id.node) ids k d d.node inside)
          (all_ids classes slots c.self.invariant.held (map (λ (id : GroupId). id.node) ids) same k
          (omega (arith, inside, length-map ids (λ (id : GroupId). id.node))) d.node));
    }
