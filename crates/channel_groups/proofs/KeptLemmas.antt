-- A group of the graph now that an edit doesn't touch was a group of the graph before, untouched; its switches stand where they
-- stood, and its members and the ends of its switches have their levels still.
use Rattle.std.proofs.Common.{◌≡◌, ℕ, inl, inr, true, false, ◌||◌, List, filter, Contains, refl, sym, subst, ◌∙◌}
use Rattle.std.proofs.lemmas.Bool.{cases_Bool}
use Rattle.std.proofs.lemmas.List.Elements.{All-contains}
use Rattle.list_facts.proofs.ContainsLemmas.{Contains-filter}
use Rattle.switch_paths.specs.Graphs.{GraphData, IsWired, level_of, IsStorage}
use Rattle.group_meaning.specs.Groups.{AreJoined, AreLinked, Group, id_of, IsGroup, AreGroups}
use Rattle.group_meaning.proofs.LinkLemmas.{AreLinked-joined, AreJoined-sym, Joins-sym}
use Rattle.group_meaning.proofs.GroupLemmas.{member_storage, linked_member, joined_member, end_in_range, storage_or_input}
use Rattle.group_meaning.proofs.UniqueGroups.{id_member, same_by_member}
use Rattle.channel_groups.specs.declared.change.Change.{Change}
use Rattle.channel_groups.specs.Changes.{undo, nodes_before, nodes_after, is_among, is_touched, is_touched_now, in_some, DifferAt, IsKept}
use Rattle.channel_groups.proofs.ChangeLemmas.{DifferAt-undo}
use Rattle.channel_groups.proofs.UntouchedLemmas.{IsGroup-untouched, members_linked, storage_stays, place_stays, joined_stays}
use Rattle.channel_groups.proofs.TickLemmas.{among, any_there, or_left, or_right}

module _ (h : GraphData) (change : Change) (old new : List Group) (wired : IsWired (undo h change)) (wired_now : IsWired h)
    (are : AreGroups (undo h change) old) (are_now : AreGroups h new) where
  -- the node is a member of a touched new group
  abbrev Seen : ℕ → Type 0
  Seen n = (group : Group) × Contains new group × (is_touched_now h change old group ≡ true) × Contains group.members n

  group_now : (group : Group) → Contains new group → IsGroup h group
  group_now group there = All-contains (IsGroup h) new group are_now.each there

  -- what is linked with such a node is one
  closed : (a b : ℕ) → Seen a → AreLinked h a b → Seen b
  closed a b seen linked = (seen.0, seen.1, seen.2, linked_member h seen.0 (group_now seen.0 seen.1) a b seen.3 linked)

  -- so is each changed storage node
  changed_seen : (n : ℕ) → IsStorage h n → Contains (nodes_after h change) n → Seen n
  changed_seen n storage changed =
      let any = are_now.whole n storage in
      let touched = any_there (λ node. is_among (nodes_after h change) node || in_some (filter (is_touched change) old) node) any.1.members n any.4
      (or_left (is_among (nodes_after h change) n) (in_some (filter (is_touched change) old) n) (among (nodes_after h change) n changed)) in
      (any.1, (any.0, any.2, any.3), touched, any.4)

  module _ (group : Group) (there : Contains new group) (untouched : is_touched_now h change old group ≡ false) where
    -- no member of an untouched new group is changed, and none was in a touched old one
    not_changed : (n : ℕ) → Contains group.members n → ¬ Contains (nodes_after h change) n
    not_changed n member changed =
        let touched = any_there (λ node. is_among (nodes_after h change) node || in_some (filter (is_touched change) old) node) group.members n member
        (or_left (is_among (nodes_after h change) n) (in_some (filter (is_touched change) old) n) (among (nodes_after h change) n changed)) in
        absurd (cc (touched, untouched))

    not_from : (n : ℕ) (was : Group) → Contains group.members n → Contains old was → Contains was.members n → is_touched change was ≡ false
    not_from n was member in_old in_was =
        elim (cases_Bool (is_touched change was)) [
          | inr fails ↦ fails
          | inl passes ↦
              let some = any_there (λ group. is_among group.members n) (filter (is_touched change) old) was
              (Contains-filter (is_touched change) old was in_old passes) (among was.members n in_was) in
              let touched = any_there (λ node. is_among (nodes_after h change) node || in_some (filter (is_touched change) old) node) group.members n member
              (or_right (is_among (nodes_after h change) n) (in_some (filter (is_touched change) old) n) some) in
              absurd (cc (touched, untouched))
        ]

    abbrev before : List ℕ
    before = nodes_before change

    abbrev after : List ℕ
    after = nodes_after h change

    differ : DifferAt (undo h change) h before after
    differ = DifferAt-undo h change

    -- the old group of its least node
    was_there : (was : Group) × Contains old was × Contains was.members (id_of group)
    was_there =
        let id = id_of group in
        let member = id_member h group (group_now group there) in
        let storage = member_storage h group (group_now group there) id member in
        elim (differ.level_back id storage.inside) [
          | inr changed ↦ absurd (not_changed id member changed)
          | inl same ↦
              let storage_was : IsStorage (undo h change) id = record { inside = same.0; below = rw same.1 storage.below } in
              let any = are.whole id storage_was in
              (any.1, (any.0, any.2, any.3), any.4)
        ]

    -- has no changed node
    unchanged : (n : ℕ) → Contains was_there.0.members n → ¬ Contains before n
    unchanged n in_was changed =
        let fails = not_from (id_of group) was_there.0 (id_member h group (group_now group there)) was_there.1 was_there.2 in
        let touched : is_touched change was_there.0 ≡ true = any_there (is_among before) was_there.0.members n in_was (among before n changed) in
        absurd (cc (touched, fails))

    is_was : IsGroup (undo h change) was_there.0
    is_was = All-contains (IsGroup (undo h change)) old was_there.0 are.each was_there.1

    -- and none that a touched new group has
    unseen : (n : ℕ) → Contains was_there.0.members n → ¬ Seen n
    unseen n in_was seen =
        let id = id_of group in
        let linked = members_linked (undo h change) h before after differ was_there.0 is_was unchanged n id in_was was_there.2 in
        let there_too = linked_member h seen.0 (group_now seen.0 seen.1) n id seen.3 linked in
        let same = same_by_member h seen.0 group (group_now seen.0 seen.1) (group_now group there) id there_too (id_member h group (group_now group there)) in
        let touched = subst (λ (g : Group). is_touched_now h change old g ≡ true) same seen.2 in
        absurd (cc (touched, untouched))

    -- so it is that group
    same_group : was_there.0 ≡ group
    same_group =
        let is_now = IsGroup-untouched (undo h change) h before after differ was_there.0 is_was unchanged Seen closed changed_seen unseen in
        same_by_member h was_there.0 group is_now (group_now group there) (id_of group) was_there.2 (id_member h group (group_now group there))

    -- a switch at a member stands where it stood, and its other end has its level
    end_level : (place m n : ℕ) → Contains was_there.0.members m → AreJoined (undo h change) place m n → level_of h n ≡ level_of (undo h change) n
    end_level place m n member at =
        let inside = end_in_range (undo h change) wired place n m at.switch at.at_place (Joins-sym at.switch m n at.joins) in
        elim (differ.level n inside) [
          | inl same ↦ same.1
          | inr changed ↦
              let at_now = joined_stays (undo h change) h before after differ was_there.0 is_was unchanged place m n member at in
              let inside_now = end_in_range h wired_now place n m at_now.switch at_now.at_place (Joins-sym at_now.switch m n at_now.joins) in
              elim (storage_or_input h wired_now n inside_now) [
                | inl storage ↦
                    let linked = AreLinked-joined h place n m storage (storage_stays (undo h change) h before after differ was_there.0 is_was unchanged m member) (AreJoined-sym at_now) in
                    absurd (unseen m member (closed n m (changed_seen n storage changed.1) linked))
                | inr input_now ↦
                    elim (storage_or_input (undo h change) wired n inside) [
                      | inl storage ↦
                          let member_too = joined_member (undo h change) was_there.0 is_was place m n at.switch at.at_place at.joins member storage in
                          absurd (unchanged n member_too changed.0)
                      | inr input ↦ input_now ∙ sym input
                    ]
              ]
        ]

    -- it is kept
    pub IsKept-untouched : IsKept h change old group
    IsKept-untouched =
        let g = undo h change in
        let was = was_there.0 in
        subst (IsKept h change old) same_group
        (record {
          was = was_there.1;
          untouched = not_from (id_of group) was (id_member h group (group_now group there)) was_there.1 was_there.2;
          places = λ place touched.
              let touches = (is_was.switches place).0 touched in
              let switch = touches.switch in
              elim touches.touches [
                | inl a ↦ place_stays g h before after differ was is_was unchanged place switch.a switch.b a
                    (record { switch = switch; at_place = touches.at_place; joins = inl (refl, refl) })
                | inr b ↦ place_stays g h before after differ was is_was unchanged place switch.b switch.a b
                    (record { switch = switch; at_place = touches.at_place; joins = inr (refl, refl) })
              ];
          members = λ node member.
              elim (differ.level node (member_storage g was is_was node member).inside) [
                | inl same ↦ same.1
                | inr changed ↦ absurd (unchanged node member changed.0)
              ];
          ends = λ place m n member at. end_level place m n member at;
        })
