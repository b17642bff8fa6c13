-- Every graph has groups.
-- Labels tell which storage nodes are linked, and each label is the least node that its node is linked with. So
-- the nodes that are their own labels are the ids of the groups, in order, and the nodes with one label are the
-- members of one group.
use Rattle.std.proofs.Common.{◌≡◌, ℕ, ◌↔◌, ◌⊎◌, inl, inr, Bool, true, false, ◌&&◌, ◌||◌, eqb, List, length, get_or, map, Contains, Option, Some, None, refl, sym, subst, ◌∙◌, arith}
use Rattle.std.specs.List.Sorted.{IsStrictlyIncreasing}
use Rattle.std.proofs.lemmas.Bool.{and_parts, and_from, or_cases, or_left, or_right, eqb-true, eq-eqb}
use Rattle.std.proofs.lemmas.List.Elements.{All-map, Contains-get_or}
use Rattle.switch_paths.specs.declared.switching.Switch.{Switch}
use Rattle.switch_paths.specs.Graphs.{GraphData, nodes, place_at, IsStorage}
use Rattle.group_meaning.specs.Groups.{AreLinked, TouchesAny, Group, id_of, IsGroup, AreGroups}
use Rattle.group_meaning.specs.Laws.{GroupsExist}
use Rattle.group_meaning.proofs.LinkLemmas.{AreLinked-to}
use Rattle.group_meaning.proofs.AscendingLists.{first_is_least, picked, contains-picked, picked-passes, picked-ascends}
use Rattle.group_meaning.proofs.MappedLists.{contains-map, map-back}
use Rattle.switch_paths.proofs.PathLemmas.{place_inside}
use Rattle.group_meaning.proofs.Labels.{is_storage, IsStorage-from_test, test-from_IsStorage, AreLabels, IsSound-from_rooted, one_label-iff_linked, root_is_own, labels_exist}

module _ (g : GraphData) (all : AreLabels g) where
  abbrev labels : ℕ → ℕ
  labels = all.labels

  -- the test for a storage node with this label
  abbrev has_label : ℕ → ℕ → Bool
  has_label label node = is_storage g node && eqb (labels node) label

  -- the test for a switch with such a node at an end
  abbrev touches : ℕ → Option Switch → Bool
  touches label None = false
  touches label (Some switch) = has_label label switch.a || has_label label switch.b

  -- the test for a place with such a switch
  abbrev touches_at : ℕ → ℕ → Bool
  touches_at label place = touches label (place_at g.places place)

  -- the group of the nodes with this label
  abbrev group_at : ℕ → Group
  group_at label = record {
    members = picked (has_label label) (nodes g);
    switches = picked (touches_at label) (length g.places);
  }

  -- the test for a storage node that is its own label
  abbrev is_id : ℕ → Bool
  is_id node = has_label node node

  -- these nodes in order
  abbrev ids : List ℕ
  ids = picked is_id (nodes g)

  -- a storage node with a label passes the label's test
  has_label-from : (label node : ℕ) → IsStorage g node → labels node ≡ label → has_label label node ≡ true
  has_label-from label node storage same =
      and_from (is_storage g node) (eqb (labels node) label) (test-from_IsStorage g node storage)
      (eq-eqb (labels node) label same)

  -- and what passes it is one
  label-from_test : (label node : ℕ) → has_label label node ≡ true → IsStorage g node × (labels node ≡ label)
  label-from_test label node passes =
      let both = and_parts (is_storage g node) (eqb (labels node) label) passes in
      (IsStorage-from_test g node both.0, eqb-true (labels node) label both.1)

  -- a storage node with a label is a member of its group
  member-from_label : (label node : ℕ) → IsStorage g node → labels node ≡ label → Contains (group_at label).members node
  member-from_label label node storage same =
      contains-picked (has_label label) (nodes g) node storage.inside (has_label-from label node storage same)

  -- and each member is one
  label-from_member : (label node : ℕ) → Contains (group_at label).members node → IsStorage g node × (labels node ≡ label)
  label-from_member label node member = label-from_test label node (picked-passes (has_label label) (nodes g) node member)

  -- what has a switch with a member at an end passes the test
  touches-from : (label place : ℕ) → TouchesAny g (group_at label).members place → touches_at label place ≡ true
  touches-from label place touching =
      let a = touching.switch.a in
      let b = touching.switch.b in
      let passes : (has_label label a || has_label label b) ≡ true =
      elim touching.touches [
        | inl member ↦ or_left (has_label label a) (has_label label b) (picked-passes (has_label label) (nodes g) a member)
        | inr member ↦ or_right (has_label label a) (has_label label b) (picked-passes (has_label label) (nodes g) b member)
      ] in
      rw touching.at_place passes

  -- a node that passes the test of a label is a member
  member-from_test : (label node : ℕ) → has_label label node ≡ true → Contains (group_at label).members node
  member-from_test label node passes =
      let found = label-from_test label node passes in
      member-from_label label node found.0 found.1

  -- what passes the test has a switch with a member at an end
  touching-from_test : (label place : ℕ) (here : Option Switch) → place_at g.places place ≡ here → touches label here ≡ true →
      TouchesAny g (group_at label).members place
  touching-from_test label place None stands passes = absurd cc
  touching-from_test label place (Some switch) stands passes =
      let members = (group_at label).members in
      let ends : Contains members switch.a ⊎ Contains members switch.b =
      elim (or_cases (has_label label switch.a) (has_label label switch.b) passes) [
        | inl a ↦ inl (member-from_test label switch.a a)
        | inr b ↦ inr (member-from_test label switch.b b)
      ] in
      record { switch = switch; at_place = stands; touches = ends }

  -- the switches of a group are those with a member at an end
  are_switches : (label place : ℕ) → Contains (group_at label).switches place ↔ TouchesAny g (group_at label).members place
  are_switches label place =
      let count = length g.places in (
        λ within. touching-from_test label place (place_at g.places place) refl
            (picked-passes (touches_at label) count place within),
        λ touching. contains-picked (touches_at label) count place
            (place_inside g.places place touching.switch touching.at_place) (touches-from label place touching),
      )

  module _ (label : ℕ) (storage : IsStorage g label) (own : labels label ≡ label) where
    -- a node that is its own label is a member of its group
    id_is_member : Contains (group_at label).members label
    id_is_member = member-from_label label label storage own

    -- and the least one
    id_is_label : id_of (group_at label) ≡ label
    id_is_label =
        let members = (group_at label).members in
        let low = first_is_least members label (picked-ascends (has_label label) (nodes g)) id_is_member in
        let first = label-from_member label (id_of (group_at label))
        (Contains-get_or members 0 0 (omega (arith, id_is_member.1))) in
        omega (arith, low, first.1, (all.rooted (id_of (group_at label)) first.0).low)

    -- the members are the nodes that are linked with it
    are_class : (node : ℕ) → Contains (group_at label).members node ↔ AreLinked g label node
    are_class node =
        let sound = IsSound-from_rooted g labels all.rooted in
        let one_label = λ (other : IsStorage g node). one_label-iff_linked g labels sound all.closed label node
        storage other in (
          λ member.
              let found = label-from_member label node member in
              (one_label found.0).0 (own ∙ sym found.1),
          λ linked.
              let there = AreLinked-to g label node linked in
              member-from_label label node there (sym ((one_label there).1 linked) ∙ own),
        )

    -- so it has a group
    is_group : IsGroup g (group_at label)
    is_group = record {
      some = omega (arith, id_is_member.1);
      class = λ node. subst (λ id. Contains (group_at label).members node ↔ AreLinked g id node) (sym id_is_label)
          (are_class node);
      ascending = picked-ascends (has_label label) (nodes g);
      switches = are_switches label;
      switches_ascending = picked-ascends (touches_at label) (length g.places);
    }

  -- each of these ids is a storage node that is its own label
  id_is_own : (id : ℕ) → Contains ids id → IsStorage g id × (labels id ≡ id)
  id_is_own id within = label-from_test id id (picked-passes is_id (nodes g) id within)

  -- the label of a storage node is one of these ids
  label_is_id : (node : ℕ) → IsStorage g node → Contains ids (labels node)
  label_is_id node storage =
      let label = labels node in
      let root = AreLinked-to g node label (all.rooted node storage).linked in
      let own = root_is_own g labels all.rooted all.closed node storage in
      contains-picked is_id (nodes g) label root.inside (has_label-from label label root own)

  -- the groups of these ids are the graph's
  are_groups : AreGroups g (map group_at ids)
  are_groups =
      let group_of_id = λ (id : ℕ) (within : Contains ids id).
      let own = id_is_own id within in is_group id own.0 own.1 in
      let same = λ (id : ℕ) (within : Contains ids id).
      let own = id_is_own id within in id_is_label id own.0 own.1 in
      record {
        each = All-map (IsGroup g) group_at ids (λ k d inside. group_of_id (get_or ids k d) (Contains-get_or ids k d inside));
        whole = λ node storage.
            let label = labels node in
            let within = label_is_id node storage in
            let there = contains-map group_at ids within.0 label within.1 within.2 in
            (there.0, group_at label, there.1, there.2, member-from_label label node storage refl);
        ascending = subst IsStrictlyIncreasing (sym (map-back id_of group_at ids same)) (picked-ascends is_id (nodes g));
      }

-- every graph has groups
pub exists : GroupsExist
exists g wired = let all = labels_exist g in (map (group_at g all) (ids g all), are_groups g all)
