-- The members of a part of a group are those of the group.
use Rattle.std.proofs.Common.{◌<◌, arith, ◌≡◌, ℕ, length, take, sym, ap, subst, ◌∙◌}
use Rattle.switch_paths.specs.Graphs.{GraphData}
use Rattle.group_meaning.specs.Groups.{Group, id_of}
use Rattle.machine_parts.specs.declared.part.MachinePart.{MachinePart}
use Rattle.machine_laws.specs.Fitting.{IsPartOf}
use Rattle.std.specs.Prelude.{slice_index, Contains}
use Rattle.std.proofs.lemmas.List.{get_or_default, get_or-take, length-take}
use Rattle.std.proofs.lemmas.List.Elements.{Contains-get_or}
use Rattle.group_meaning.proofs.UniqueGroups.{id_member, same_by_member}
use Rattle.machine_parts.specs.Parts.{IsMemberAt}

-- the part of a group has a member
pub some_members : {g : GraphData} {group : Group} {part : MachinePart} → IsPartOf g group part → 0 < part.members
some_members is_part = omega (arith, is_part.count, is_part.is_group.some)

module _ (g : GraphData) (group : Group) (part : MachinePart) (is_part : IsPartOf g group part) where
  -- the member of the part at a place is that of the group
  pub member_from_part : (place node : ℕ) → IsMemberAt part place node → slice_index group.members place ≡ node
  member_from_part place node member =
      ap (λ xs. slice_index xs place) (sym is_part.members) ∙ (get_or-take part.members part.map.items place 0 member.inside ∙ member.here)

  -- and there is such a place in the group
  pub place_in_group : (place node : ℕ) → IsMemberAt part place node → place < length group.members
  place_in_group place node member = omega (arith, is_part.count, member.inside)

  -- so a member of the part is a member of the group
  pub member_in_group : (place node : ℕ) → IsMemberAt part place node → Contains group.members node
  member_in_group place node member =
      rw (member_from_part place node member) at (Contains-get_or group.members place 0 (place_in_group place node member))

  -- and a member of the group is one of the part
  pub member_of_part : (node : ℕ) → Contains group.members node → (place : ℕ) × IsMemberAt part place node
  member_of_part node (place, inside, here) =
      let first : place < part.members = omega (arith, is_part.count) in
      let within : place < length part.map.items =
      omega (arith, length-take part.members part.map.items, ap length is_part.members, first) in
      let there : slice_index (take part.members part.map.items) place ≡ slice_index group.members place =
      ap (λ xs. slice_index xs place) is_part.members in (
        place,
        record {
          inside = first;
          within = within;
          here = sym (get_or-take part.members part.map.items place 0 first) ∙ (there ∙ (get_or_default group.members place 0 node inside ∙ here));
        },
      )

-- a part is that of one group
pub one_group : (g : GraphData) (one two : Group) (part : MachinePart) → IsPartOf g one part → IsPartOf g two part → one ≡ two
one_group g one two part is_one is_two =
    let first : Contains one.members (id_of one) = id_member g one is_one.is_group in
    let second : Contains two.members (id_of one) =
    subst (λ members. Contains members (id_of one)) (sym is_one.members ∙ is_two.members) first in
    same_by_member g one two is_one.is_group is_two.is_group (id_of one) first second
