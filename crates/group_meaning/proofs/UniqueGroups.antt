-- A graph has at most one list of groups.
-- A group is determined by its id: its members are the nodes that are linked with it, its switches those with a
-- member at an end, and both ascend. Groups that share a member have one id, the least of their members. So two
-- lists of groups have the same ids, each list in ascending order, and are one.
use Rattle.std.proofs.Common.{◌≡◌, ℕ, List, [], ◌∷◌, map, All, Contains, refl, sym, ap₂, subst, ◌∙◌, arith}
use Rattle.std.proofs.lemmas.List.Elements.{All-head, All-tail, Contains-get_or}
use Rattle.switch_paths.specs.Graphs.{GraphData}
use Rattle.group_meaning.specs.Groups.{AreLinked, TouchesAny, Group, id_of, IsGroup, AreGroups}
use Rattle.group_meaning.specs.Laws.{GroupsAreUnique}
use Rattle.group_meaning.proofs.LinkLemmas.{AreLinked-sym, AreLinked-trans}
use Rattle.group_meaning.proofs.GroupLemmas.{member_storage}
use Rattle.group_meaning.proofs.AscendingLists.{first_is_least, same_ascending}
use Rattle.group_meaning.proofs.MappedLists.{contains-map, contains-from_map, at_place}

module _ (g : GraphData) where
  -- the id of a group is a member of it
  pub id_member : (group : Group) → IsGroup g group → Contains group.members (id_of group)
  id_member group is_group = Contains-get_or group.members 0 0 is_group.some

  -- nodes that are linked with one id are members of its group, whichever list it is taken from
  same_members : (one two : Group) → IsGroup g one → IsGroup g two → id_of one ≡ id_of two → (node : ℕ) →
      Contains one.members node → Contains two.members node
  same_members one two is_one is_two same node member =
      (is_two.class node).1 (subst (λ id. AreLinked g id node) same ((is_one.class node).0 member))

  -- and so are the switches at them
  same_switches : (one two : Group) → IsGroup g one → IsGroup g two → one.members ≡ two.members → (place : ℕ) →
      Contains one.switches place → Contains two.switches place
  same_switches one two is_one is_two same place within =
      (is_two.switches place).1 (subst (λ members. TouchesAny g members place) same ((is_one.switches place).0 within))

  -- groups with one id are one
  pub same_by_id : (one two : Group) → IsGroup g one → IsGroup g two → id_of one ≡ id_of two → one ≡ two
  same_by_id one two is_one is_two same =
      let members : one.members ≡ two.members =
      same_ascending one.members two.members is_one.ascending is_two.ascending
      (same_members one two is_one is_two same) (same_members two one is_two is_one (sym same)) in
      let switches : one.switches ≡ two.switches =
      same_ascending one.switches two.switches is_one.switches_ascending is_two.switches_ascending
      (same_switches one two is_one is_two members) (same_switches two one is_two is_one (sym members)) in
      λ i. record { members = members i; switches = switches i }

  -- the id of a group that shares a member with another is a member of the other
  id_shared : (one two : Group) → IsGroup g one → IsGroup g two → (node : ℕ) → Contains one.members node →
      Contains two.members node →
      Contains two.members (id_of one)
  id_shared one two is_one is_two node here there =
      let back = AreLinked-sym g (id_of one) node ((is_one.class node).0 here) in
      (is_two.class (id_of one)).1 (AreLinked-trans g (id_of two) node (id_of one) ((is_two.class node).0 there) back)

  -- groups that share a member have one id
  pub same_id : (one two : Group) → IsGroup g one → IsGroup g two → (node : ℕ) → Contains one.members node →
      Contains two.members node →
      id_of one ≡ id_of two
  same_id one two is_one is_two node here there =
      let low = first_is_least one.members (id_of two) is_one.ascending (id_shared two one is_two is_one node there here) in
      let high = first_is_least two.members (id_of one) is_two.ascending (id_shared one two is_one is_two node here there) in
      omega arith

  -- groups that share a member are one
  pub same_by_member : (one two : Group) → IsGroup g one → IsGroup g two → (node : ℕ) → Contains one.members node →
      Contains two.members node →
      one ≡ two
  same_by_member one two is_one is_two node here there =
      same_by_id one two is_one is_two (same_id one two is_one is_two node here there)

  -- lists of groups with the same ids are one
  same_by_ids : (groups others : List Group) → All (IsGroup g) groups → All (IsGroup g) others →
      map id_of groups ≡ map id_of others →
      groups ≡ others
  same_by_ids [] [] each each_too same = refl
  same_by_ids [] (other ∷ others) each each_too same = absurd cc
  same_by_ids (group ∷ groups) [] each each_too same = absurd cc
  same_by_ids (group ∷ groups) (other ∷ others) each each_too same =
      let first : id_of group ≡ id_of other = cc in
      let rest : map id_of groups ≡ map id_of others = cc in
      let is_group = All-head (IsGroup g) group groups each in
      let is_other = All-head (IsGroup g) other others each_too in
      ap₂ (λ x xs. x ∷ xs) (same_by_id group other is_group is_other first)
      (same_by_ids groups others (All-tail (IsGroup g) group groups each) (All-tail (IsGroup g) other others each_too) rest)

module _ (g : GraphData) (groups others : List Group) (are_groups : AreGroups g groups) (are_others : AreGroups g others) where
  -- an id in the one list of groups is one in the other
  same_ids : (id : ℕ) → Contains (map id_of groups) id → Contains (map id_of others) id
  same_ids id within =
      let (_, group, inside, here, is_id) = contains-from_map id_of groups id within in
      let is_group = at_place (IsGroup g) groups _ group are_groups.each inside here in
      let member = id_member g group is_group in
      let (k, other, inside_too, there, shared) = are_others.whole (id_of group)
      (member_storage g group is_group (id_of group) member) in
      let is_other = at_place (IsGroup g) others k other are_others.each inside_too there in
      let same = same_id g other group is_other is_group (id_of group) shared member in
      subst (Contains (map id_of others)) (same ∙ is_id) (contains-map id_of others k other inside_too there)

-- a graph has at most one list of groups
pub unique : GroupsAreUnique
unique g groups others are_groups are_others =
    let ids = same_ascending (map id_of groups) (map id_of others) are_groups.ascending are_others.ascending
    (same_ids g groups others are_groups are_others) (same_ids g others groups are_others are_groups) in
    same_by_ids g groups others are_groups.each are_others.each ids
