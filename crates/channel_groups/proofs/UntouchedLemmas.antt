-- A group that an edit doesn't touch is a group of both graphs.
-- Its members have none of the changed nodes among them, so what linked them links them still. And where a switch or a
-- level of the graph now led out of it, it would lead over a changed node to what was seen.
use Rattle.std.proofs.Common.{◌≡◌, ℕ, inl, inr, List, [], ◌∷◌, Contains, refl, ◌∙◌}
use Rattle.switch_paths.specs.Graphs.{GraphData, IsStorage, place_at}
use Rattle.group_meaning.specs.Groups.{AreJoined, AreLinked, LinksOver, TouchesAny, Group, id_of, IsGroup}
use Rattle.group_meaning.proofs.LinkLemmas.{AreLinked-joined, AreLinked-sym, AreLinked-trans, LinksOver-from, AreJoined-sym}
use Rattle.group_meaning.proofs.GroupLemmas.{member_storage, linked_member}
use Rattle.group_meaning.proofs.UniqueGroups.{id_member}
use Rattle.channel_groups.specs.Changes.{DifferAt}

-- what stands at the place of the one graph stands there in the other
AreJoined-moved : (g h : GraphData) (place m n : ℕ) → AreJoined g place m n → place_at h.places place ≡ place_at g.places place → AreJoined h place m n
AreJoined-moved g h place m n at same = record { switch = at.switch; at_place = same ∙ at.at_place; joins = at.joins }

-- a switch touches nodes in the other graph too, where its place holds the same in both wherever it joins one of them
TouchesAny-moved : (g h : GraphData) (members : List ℕ) (place : ℕ) →
    ((m n : ℕ) → Contains members m → AreJoined g place m n → place_at h.places place ≡ place_at g.places place) →
    TouchesAny g members place → TouchesAny h members place
TouchesAny-moved g h members place stays at =
    let same : place_at h.places place ≡ place_at g.places place =
    elim at.touches [
      | inl a ↦ stays at.switch.a at.switch.b a (record { switch = at.switch; at_place = at.at_place; joins = inl (refl, refl) })
      | inr b ↦ stays at.switch.b at.switch.a b (record { switch = at.switch; at_place = at.at_place; joins = inr (refl, refl) })
    ] in
    record { switch = at.switch; at_place = same ∙ at.at_place; touches = at.touches }

module _ (g h : GraphData) (before after : List ℕ) (differ : DifferAt g h before after) (group : Group) (is : IsGroup g group)
    (unchanged : (n : ℕ) → Contains group.members n → ¬ Contains before n) where
  -- a member is a storage node still
  pub storage_stays : (n : ℕ) → Contains group.members n → IsStorage h n
  storage_stays n member =
      let storage = member_storage g group is n member in
      elim (differ.level n storage.inside) [
        | inl same ↦ record { inside = same.0; below = rw same.1 storage.below }
        | inr old ↦ absurd (unchanged n member old.0)
      ]

  -- a switch at a member stands where it stood
  pub place_stays : (place m n : ℕ) → Contains group.members m → AreJoined g place m n → place_at h.places place ≡ place_at g.places place
  place_stays place m n member at = elim (differ.joined place m n at) [ inl same ↦ same | inr old ↦ absurd (unchanged m member old.0) ]

  pub joined_stays : (place m n : ℕ) → Contains group.members m → AreJoined g place m n → AreJoined h place m n
  joined_stays place m n member at = AreJoined-moved g h place m n at (place_stays place m n member at)

  links_stay : (places : List ℕ) (m n : ℕ) → LinksOver g places m n → Contains group.members m → LinksOver h places m n
  links_stay [] m n links member = (storage_stays m member, links.1)
  links_stay (place ∷ places) m n links member =
      let next = links.1.0 in
      let at = links.1.1 in
      let there = linked_member g group is m next member (AreLinked-joined g place m next links.0 (LinksOver-from g places next n links.1.2) at) in
      (storage_stays m member, (next, joined_stays place m next member at, links_stay places next n links.1.2 there))

  -- members are linked still
  pub members_linked : (m n : ℕ) → Contains group.members m → Contains group.members n → AreLinked h m n
  members_linked m n one two =
      let linked = AreLinked-trans g m (id_of group) n (AreLinked-sym g (id_of group) m ((is.class m).0 one)) ((is.class n).0 two) in
      record { places = linked.places; links = links_stay linked.places m n linked.links one }

  module _ (Seen : ℕ → Type 0) (closed : (a b : ℕ) → Seen a → AreLinked h a b → Seen b)
      (new : (n : ℕ) → IsStorage h n → Contains after n → Seen n) (unseen : (n : ℕ) → Contains group.members n → ¬ Seen n) where
    -- a switch at a member stood where it stands
    pub place_stood : (place m n : ℕ) → Contains group.members m → AreJoined h place m n → place_at g.places place ≡ place_at h.places place
    place_stood place m n member at =
        elim (differ.joined_back place m n at) [ inl same ↦ same | inr news ↦ absurd (unseen m member (new m (storage_stays m member) news.0)) ]

    -- a storage node that a switch now joins with a member is a member
    joined_before : (place m n : ℕ) → Contains group.members m → AreJoined h place m n → IsStorage h n → Contains group.members n
    joined_before place m n member at storage =
        let at_before = AreJoined-moved h g place m n at (place_stood place m n member at) in
        elim (differ.level_back n storage.inside) [
          | inl same ↦
              let was : IsStorage g n = record { inside = same.0; below = rw same.1 storage.below } in
              linked_member g group is m n member (AreLinked-joined g place m n (member_storage g group is m member) was at_before)
          | inr news ↦
              let linked = AreLinked-joined h place n m storage (storage_stays m member) (AreJoined-sym at) in
              absurd (unseen m member (closed n m (new n storage news) linked))
        ]

    links_before : (places : List ℕ) (m n : ℕ) → LinksOver h places m n → Contains group.members m → Contains group.members n
    links_before [] m n links member = rw (← links.1) member
    links_before (place ∷ places) m n links member =
        let next = links.1.0 in
        links_before places next n links.1.2 (joined_before place m next member links.1.1 (LinksOver-from h places next n links.1.2))

    -- a switch touches the members in the one graph if it does in the other
    touches_stay : (place : ℕ) → TouchesAny g group.members place → TouchesAny h group.members place
    touches_stay place = TouchesAny-moved g h group.members place (place_stays place)

    touches_before : (place : ℕ) → TouchesAny h group.members place → TouchesAny g group.members place
    touches_before place = TouchesAny-moved h g group.members place (place_stood place)

    -- so it is a group of the graph now
    pub IsGroup-untouched : IsGroup h group
    IsGroup-untouched =
        let least = id_member g group is in
        record {
          some = is.some;
          class = λ node. (
            (λ member. members_linked (id_of group) node least member),
            (λ linked. links_before linked.places (id_of group) node linked.links least),
          );
          ascending = is.ascending;
          switches = λ place. (
            (λ there. touches_stay place ((is.switches place).0 there)),
            (λ touches. (is.switches place).1 (touches_before place touches)),
          );
          switches_ascending = is.switches_ascending;
        }
