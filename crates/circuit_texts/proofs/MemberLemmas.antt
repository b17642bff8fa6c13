-- The members of all parts are the storage nodes, each once: part k has the members of group k.
use Rattle.std.proofs.Common.{◌≡◌, ℕ, ◌<◌, inl, inr, List, length, map, Some, refl, sym, subst, ◌∙◌, arith}
use Rattle.std.specs.Prelude.{Contains, slice_get, slice_index}
use Rattle.std.specs.List.{AllZip}
use Rattle.std.specs.List.Sorted.{IsStrictlyIncreasing}
use Rattle.std.proofs.lemmas.Bool.{cases_order}
use Rattle.std.proofs.lemmas.List.{get_or_default}
use Rattle.std.proofs.lemmas.List.Elements.{Contains-get_or}
use Rattle.std.proofs.lemmas.List.Kept.{AllPairs-from_increasing}
use Rattle.std.proofs.lemmas.Option.{slice_get-map, slice_get_within, get_or_from_slice_get, slice_get_read}
use Rattle.switch_paths.specs.Graphs.{GraphData, IsStorage}
use Rattle.group_meaning.specs.Groups.{Group, id_of, IsGroup, AreGroups}
use Rattle.group_meaning.proofs.GroupLemmas.{member_storage}
use Rattle.group_meaning.proofs.UniqueGroups.{same_id}
use Rattle.group_text.specs.Texts.{local_nodes}
use Rattle.group_text.proofs.LocalNodes.{member_at, members_within}
use Rattle.straight_code.specs.declared.part.Part.{Part}
use Rattle.straight_code.specs.Parts.{IsMemberAt, IsMember, AreMembers}
use Rattle.circuit_texts.specs.Parts.{IsPartOf}
use Rattle.circuit_texts.proofs.PairedLists.{partner_first, partner_second}

-- a number stands once in a list that ascends
same_number : (xs : List ℕ) → IsStrictlyIncreasing xs → (k l x : ℕ) → slice_get xs k ≡ Some x → slice_get xs l ≡ Some x → k ≡ l
same_number xs ascends k l x at_k at_l =
    let k_inside = slice_get_within xs k x at_k in
    let l_inside = slice_get_within xs l x at_l in
    let here = get_or_from_slice_get xs k x 0 at_k in
    let there = get_or_from_slice_get xs l x 0 at_l in
    elim (cases_order k l) [
      | inl equal ↦ equal
      | inr other ↦
          elim other [
            | inl before ↦ absurd (omega (arith, AllPairs-from_increasing xs ascends k l 0 before l_inside, here, there))
            | inr after ↦ absurd (omega (arith, AllPairs-from_increasing xs ascends l k 0 after k_inside, here, there))
          ]
    ]

-- the part is that of the group with its number, and the node is the group's member with this number
pub record IsMemberOf (g : GraphData) (groups : List Group) (node k j : ℕ) (part : Part) : Type 0 where
  pub group : Group
  pub stands : slice_get groups k ≡ Some group
  pub is_group : IsGroup g group
  pub made : IsPartOf g group part
  pub inside : j < length group.members
  pub here : slice_index group.members j ≡ node

module _ (g : GraphData) (groups : List Group) (are : AreGroups g groups) (parts : List Part) (made : AllZip (IsPartOf g) groups parts) where
  -- what stands at a place of the groups is a group
  pub group_at : (k : ℕ) (group : Group) → slice_get groups k ≡ Some group → IsGroup g group
  group_at k group stands =
      subst (IsGroup g) (get_or_from_slice_get groups k group group stands) (are.each k group (slice_get_within groups k group stands))

  -- the node at a member's place of the map of a part is a member of the group
  pub member_of : (node k j : ℕ) (member : IsMemberAt parts node k j) → IsMemberOf g groups node k j member.part
  member_of node k j member =
      let partner = partner_first (IsPartOf g) groups parts k member.part made member.stands in
      let group = partner.0 in
      let is_group = group_at k group partner.1 in
      let inside : j < length group.members = rw partner.2.members at member.is_member in
      let there = get_or_from_slice_get (local_nodes g group) j node 0 (rw partner.2.map at member.at_place) in
      record {
        group = group;
        stands = partner.1;
        is_group = is_group;
        made = partner.2;
        inside = inside;
        here = sym (member_at g group is_group j inside) ∙ there;
      }

  -- and each member of the group stands there
  pub member_from : (node k j : ℕ) (group : Group) → slice_get groups k ≡ Some group → j < length group.members → slice_index group.members j ≡ node →
      IsMemberAt parts node k j
  member_from node k j group stands inside here =
      let partner = partner_second (IsPartOf g) groups parts k group made stands in
      let is_group = group_at k group stands in
      let locals = local_nodes g group in
      let within : j < length locals = omega (arith, members_within g group is_group) in
      let there : node ≡ slice_index locals j = sym (member_at g group is_group j inside ∙ here) in
      record {
        part = partner.0;
        stands = partner.1;
        is_member = rw partner.2.members inside;
        at_place = rw partner.2.map (slice_get_read locals (length locals) j node refl within (there ∙ get_or_default locals j 0 node within));
      }

  -- a member of a part is a member of its group
  contained : (node k j : ℕ) (part : Part) (of : IsMemberOf g groups node k j part) → Contains of.group.members node
  contained node k j part of = rw of.here at (Contains-get_or of.group.members j 0 of.inside)

  -- a storage node is a member of some part
  is_member : (node : ℕ) → IsStorage g node → IsMember parts node
  is_member node storage =
      let (k, group, inside, stands, member) = are.whole node storage in
      let j = member.0 in
      let here = get_or_default group.members j 0 node member.1 ∙ member.2 in
      let there = slice_get_read groups (length groups) k group refl inside (sym stands) in
      record { k = k; j = j; here = member_from node k j group there member.1 here }

  -- parts that share a member are one
  same_part : (node k j l i : ℕ) → IsMemberAt parts node k j → IsMemberAt parts node l i → k ≡ l
  same_part node k j l i one two =
      let first = member_of node k j one in
      let second = member_of node l i two in
      let same = same_id g first.group second.group first.is_group second.is_group node (contained node k j one.part first)
      (contained node l i two.part second) in
      let at_k : slice_get (map id_of groups) k ≡ Some (id_of first.group) = rw (slice_get-map id_of groups k, first.stands) refl in
      let at_l : slice_get (map id_of groups) l ≡ Some (id_of first.group) = rw (slice_get-map id_of groups l, second.stands, same) refl in
      same_number (map id_of groups) are.ascending k l (id_of first.group) at_k at_l

  -- the members of all parts are the storage nodes, each once
  pub AreMembers-from_groups : AreMembers g parts
  AreMembers-from_groups = record {
    storage = λ node k j member.
        let of = member_of node k j member in
        (member_storage g of.group of.is_group node (contained node k j member.part of)).below;
    each = λ node in_range below. is_member node (record { inside = in_range; below = below });
    once = same_part;
  }
