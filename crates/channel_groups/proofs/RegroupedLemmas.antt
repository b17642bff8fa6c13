-- What stays and what was found are the groups of the graph after an edit.
-- A group of the graph before stays where no changed node is among its members and none was seen. All nodes of the other
-- groups are cleared, and then the found groups are put in. A seen and an unseen member can't be in one group that stays
-- unchanged, since its members are linked still.
use Rattle.std.proofs.Common.{◌≡◌, ℕ, ◌⊎◌, inl, inr, List, [], ◌∷◌, get_or, Option, Some, Contains, refl, sym, ap, subst, ◌∙◌, arith}
use Rattle.std.specs.Prelude.{Any}
use Rattle.std.proofs.lemmas.Bool.{cases_eq}
use Rattle.std.proofs.lemmas.List.Elements.{All-contains, Contains-get_or}
use Rattle.list_facts.proofs.ContainsLemmas.{Contains-cons_cases, Contains-cons_first, Contains-cons_later}
use Rattle.switch_paths.specs.Graphs.{GraphData, IsStorage}
use Rattle.group_meaning.specs.Groups.{AreLinked, Group, id_of, IsGroup, AreGroups}
use Rattle.group_meaning.proofs.GroupLemmas.{linked_member}
use Rattle.group_meaning.proofs.UniqueGroups.{id_member, same_by_member}
use Rattle.channel_groups.specs.Changes.{DifferAt}
use Rattle.channel_groups.specs.Grouping.{class_at, slot_at, held, IsHeld}
use Rattle.channel_groups.specs.Writing.{Clears, AreApart, AreTouched, Puts}
use Rattle.channel_groups.proofs.UntouchedLemmas.{members_linked, IsGroup-untouched}
use Rattle.channel_groups.proofs.HeldLemmas.{slot-from_held, held-from_slot, held_ascending, one_slot, id_inside}

-- a number is in a list or it isn't
pub contained_or_not : (xs : List ℕ) (x : ℕ) → Contains xs x ⊎ (¬ Contains xs x)
contained_or_not [] x = inr (λ there. omega (arith, there.1))
contained_or_not (y ∷ ys) x =
    elim (cases_eq y x) [
      | inl same ↦ inl (Contains-cons_first y ys x same)
      | inr other ↦
          elim (contained_or_not ys x) [
            | inl later ↦ inl (Contains-cons_later y ys x later)
            | inr none ↦ inr (λ there. elim (Contains-cons_cases y ys x there) [ inl same ↦ other same | inr later ↦ none later ])
          ]
    ]

-- two lists share a number or they don't
pub shared_or_not : (xs ys : List ℕ) → ((x : ℕ) × Contains xs x × Contains ys x) ⊎ ((x : ℕ) → Contains xs x → ¬ Contains ys x)
shared_or_not [] ys = inr (λ x there. absurd (omega (arith, there.1)))
shared_or_not (x ∷ xs) ys =
    elim (contained_or_not ys x) [
      | inl shared ↦ inl (x, Contains-cons_first x xs x refl, shared)
      | inr alone ↦
          elim (shared_or_not xs ys) [
            | inl (y, here, there) ↦ inl (y, Contains-cons_later x xs y here, there)
            | inr none ↦ inr (λ y here there.
                elim (Contains-cons_cases x xs y here) [ inl same ↦ alone (subst (Contains ys) (sym same) there) | inr later ↦ none y later there ])
          ]
    ]

-- groups of one graph that share a member are one
pub AreApart-groups : (h : GraphData) (fresh : List Group) → ((group : Group) → Contains fresh group → IsGroup h group) → AreApart fresh
AreApart-groups h fresh each one two node is_one is_two in_one in_two =
    same_by_member h one two (each one is_one) (each two is_two) node in_one in_two

module _ (g h : GraphData) (before after : List ℕ) (differ : DifferAt g h before after) (classes : List (Option ℕ)) (slots : List (Option Group))
    (are_held : IsHeld classes slots) (are : AreGroups g (held slots)) where
  -- a group in a slot is one of the graph before
  pub IsGroup-slot : (id : ℕ) (group : Group) → slot_at slots id ≡ Some group → IsGroup g group
  IsGroup-slot id group at = All-contains (IsGroup g) (held slots) group are.each (held-from_slot slots id group at)

  module _ (gone : List ℕ) (touched : AreTouched classes slots before gone) (seen : List ℕ) (fresh : List Group)
      (each : (group : Group) → Contains fresh group → IsGroup h group)
      (all : (group : Group) (node : ℕ) → Contains fresh group → Contains group.members node → Contains seen node)
      (only : (node : ℕ) → Contains seen node → (group : Group) × Contains fresh group × Contains group.members node)
      (gone_rooted : (n : ℕ) → Contains gone n → IsStorage h n → Contains seen n)
      (new_rooted : (n : ℕ) → Contains after n → IsStorage h n → Contains seen n) where
    -- what is linked with a seen node was seen
    closed : (a b : ℕ) → Contains seen a → AreLinked h a b → Contains seen b
    closed a b there linked =
        let found = only a there in
        all found.0 b found.1 (linked_member h found.0 (each found.0 found.1) a b found.2 linked)

    -- a node whose group doesn't stay
    abbrev Goes : ℕ → Type 0
    Goes n = Contains gone n ⊎ Contains seen n

    goes_or_not : (n : ℕ) → Goes n ⊎ (¬ Goes n)
    goes_or_not n =
        elim (contained_or_not gone n) [
          | inl is ↦ inl (inl is)
          | inr not_gone ↦
              elim (contained_or_not seen n) [
                | inl is ↦ inl (inr is)
                | inr not_seen ↦ inr (λ goes. elim goes [ inl is ↦ not_gone is | inr is ↦ not_seen is ])
              ]
        ]

    -- with a member the whole group goes
    goes_whole : (id m n : ℕ) (group : Group) → slot_at slots id ≡ Some group → Contains group.members m → Contains group.members n → Goes m → Goes n
    goes_whole id m n group at in_m in_n goes =
        elim (shared_or_not group.members before) [
          | inl (old, member, changed) ↦ inl (touched.all id old n group at member changed in_n)
          | inr unchanged ↦
              elim goes [
                | inl is ↦
                    let why = touched.only m is in
                    let one = one_slot classes slots are_held id why.0 group why.2 m at why.3 in_m why.6 in
                    absurd (unchanged why.1 (subst (λ (one : Group). Contains one.members why.1) (sym one.1) why.4) why.5)
                | inr is ↦ inr (closed m n is (members_linked g h before after differ group (IsGroup-slot id group at) unchanged m n in_m in_n))
              ]
        ]

    -- a group that stays is one of the graph now
    stays_group : (id : ℕ) (group : Group) → slot_at slots id ≡ Some group → (¬ Goes id) → IsGroup h group
    stays_group id group at stays =
        let own = id_inside classes slots are_held id group at in
        IsGroup-untouched g h before after differ group (IsGroup-slot id group at)
        (λ n member changed. stays (inl (touched.all id n id group at member changed own)))
        (Contains seen) closed (λ n storage new. new_rooted n new storage)
        (λ n member is. stays (goes_whole id n id group at member own (inr is)))

    module _ (classes_1 classes_2 classes_3 : List (Option ℕ)) (slots_1 slots_2 slots_3 : List (Option Group))
        (class_gone : Clears ℕ gone (class_at classes) (class_at classes_1)) (slot_gone : Clears Group gone (slot_at slots) (slot_at slots_1))
        (class_seen : Clears ℕ seen (class_at classes_1) (class_at classes_2)) (slot_seen : Clears Group seen (slot_at slots_1) (slot_at slots_2))
        (puts : Puts fresh classes_2 classes_3 slots_2 slots_3) where
      -- what stays has its class and its slot still
      class_stays : (n : ℕ) → (¬ Goes n) → class_at classes_3 n ≡ class_at classes n
      class_stays n stays =
          puts.class_stays n (λ group is member. stays (inr (all group n is member)))
          ∙ class_seen.stays n (λ is. stays (inr is))
          ∙ class_gone.stays n (λ is. stays (inl is))

      slot_stays : (n : ℕ) → (¬ Goes n) → slot_at slots_3 n ≡ slot_at slots n
      slot_stays n stays =
          puts.slot_stays n (λ group is same. stays (inr (all group n is (subst (Contains group.members) same (id_member h group (each group is))))))
          ∙ slot_seen.stays n (λ is. stays (inr is))
          ∙ slot_gone.stays n (λ is. stays (inl is))

      -- a group now is a found one or one that stays
      slot_cases : (id : ℕ) (group : Group) → slot_at slots_3 id ≡ Some group →
          (Contains fresh group × (id_of group ≡ id)) ⊎ ((slot_at slots id ≡ Some group) × ¬ Goes id)
      slot_cases id group at =
          elim (contained_or_not seen id) [
            | inl is ↦
                let found = only id is in
                elim (cases_eq (id_of found.0) id) [
                  | inl same ↦
                      let put = puts.slot found.0 found.1 in
                      let one : found.0 ≡ group = cc (put, at, same) in
                      inl (subst (Contains fresh) one found.1, ap id_of (sym one) ∙ same)
                  | inr other ↦
                      let none = puts.slot_stays id (λ group is_fresh same.
                      let member = subst (Contains group.members) same (id_member h group (each group is_fresh)) in
                      let one = same_by_member h found.0 group (each found.0 found.1) (each group is_fresh) id found.2 member in
                      other (ap id_of one ∙ same)) ∙ slot_seen.gone id is in
                      absurd (cc (none, at))
                ]
            | inr not_seen ↦
                let moved = puts.slot_stays id (λ group is same. not_seen (all group id is (subst (Contains group.members) same (id_member h group (each group is)))))
                ∙ slot_seen.stays id not_seen in
                elim (contained_or_not gone id) [
                  | inl is ↦ let none = slot_gone.gone id is in absurd (cc (moved, none, at))
                  | inr not_gone ↦
                      inr (sym (slot_gone.stays id not_gone) ∙ sym moved ∙ at, (λ goes. elim goes [ inl is ↦ not_gone is | inr is ↦ not_seen is ]))
                ]
          ]

      -- a group that stays has its slot
      slot_kept : (id : ℕ) (group : Group) → slot_at slots id ≡ Some group → (¬ Goes id) → slot_at slots_3 id ≡ Some group
      slot_kept id group at stays = slot_stays id stays ∙ at

      -- a node's class now is that of a found group, or its old one
      class_cases : (n id : ℕ) → class_at classes_3 n ≡ Some id →
          ((group : Group) × Contains fresh group × Contains group.members n × (id_of group ≡ id)) ⊎ ((class_at classes n ≡ Some id) × ¬ Goes n)
      class_cases n id is =
          elim (contained_or_not seen n) [
            | inl there ↦
                let found = only n there in
                let put = puts.class found.0 n found.1 found.2 in
                let same : id_of found.0 ≡ id = cc (put, is) in
                inl (found.0, found.1, found.2, same)
            | inr not_seen ↦
                let moved = puts.class_stays n (λ group is_fresh member. not_seen (all group n is_fresh member)) ∙ class_seen.stays n not_seen in
                elim (contained_or_not gone n) [
                  | inl there ↦ let none = class_gone.gone n there in absurd (cc (moved, none, is))
                  | inr not_gone ↦
                      inr (sym (class_gone.stays n not_gone) ∙ sym moved ∙ is, (λ goes. elim goes [ inl there ↦ not_gone there | inr there ↦ not_seen there ]))
                ]
          ]

      -- each group stands at its least node, and its members have that node as their class
      IsHeld-regrouped : IsHeld classes_3 slots_3
      IsHeld-regrouped = record {
        own = λ id group at.
            elim (slot_cases id group at) [
              | inl found ↦ (found.1, (each group found.0).some)
              | inr old ↦ are_held.own id group old.0
            ];
        class = λ id node group at member.
            elim (slot_cases id group at) [
              | inl found ↦ puts.class group node found.0 member ∙ ap Some found.1
              | inr old ↦
                  let own = id_inside classes slots are_held id group old.0 in
                  class_stays node (λ goes. old.1 (goes_whole id node id group old.0 member own goes))
                  ∙ are_held.class id node group old.0 member
            ];
        member = λ node id is.
            elim (class_cases node id is) [
              | inl found ↦ (found.0, ap (slot_at slots_3) (sym found.3) ∙ puts.slot found.0 found.1, found.2)
              | inr old ↦
                  let there = are_held.member node id old.0 in
                  let own = id_inside classes slots are_held id there.0 there.1 in
                  (there.0, slot_kept id there.0 there.1 (λ goes. old.1 (goes_whole id id node there.0 there.1 own there.2 goes)), there.2)
            ];
      }

      -- and they are the groups of the graph now
      AreGroups-regrouped : AreGroups h (held slots_3)
      AreGroups-regrouped = record {
        each = λ k d inside.
            let slot = slot-from_held slots_3 (get_or (held slots_3) k d) (Contains-get_or (held slots_3) k d inside) in
            elim (slot_cases slot.0 (get_or (held slots_3) k d) slot.1) [
              | inl found ↦ each (get_or (held slots_3) k d) found.0
              | inr old ↦ stays_group slot.0 (get_or (held slots_3) k d) old.0 old.1
            ];
        whole = λ node storage.
            elim (contained_or_not seen node) [
              | inl is ↦
                  let found = only node is in
                  any_held (id_of found.0) found.0 (puts.slot found.0 found.1) node found.2
              | inr not_seen ↦
                  elim (differ.level_back node storage.inside) [
                    | inr new ↦ absurd (not_seen (new_rooted node new storage))
                    | inl same ↦
                        let was : IsStorage g node = record { inside = same.0; below = rw same.1 storage.below } in
                        let any = are.whole node was in
                        let slot = slot-from_held slots any.1 (any.0, any.2, any.3) in
                        let own = id_inside classes slots are_held slot.0 any.1 slot.1 in
                        let stays : ¬ Goes node = λ goes. elim goes [ inl is ↦ not_seen (gone_rooted node is storage) | inr is ↦ not_seen is ] in
                        any_held slot.0 any.1
                        (slot_kept slot.0 any.1 slot.1 (λ goes. stays (goes_whole slot.0 slot.0 node any.1 slot.1 own any.4 goes))) node any.4
                  ]
            ];
        ascending = held_ascending slots_3 (λ id group at. (IsHeld-regrouped.own id group at).0);
      }
        where
          any_held : (id : ℕ) (group : Group) → slot_at slots_3 id ≡ Some group → (node : ℕ) → Contains group.members node →
              Any (λ group. Contains group.members node) (held slots_3)
          any_held id group at node member =
              let there = held-from_slot slots_3 id group at in
              (there.0, group, there.1, there.2, member)

      -- so the groups of the graph now are held
      pub regrouped : IsHeld classes_3 slots_3 × AreGroups h (held slots_3)
      regrouped = (IsHeld-regrouped, AreGroups-regrouped)
