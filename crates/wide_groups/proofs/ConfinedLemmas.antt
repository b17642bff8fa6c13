-- A graph that is confined to some storage nodes has the groups of the other graph whose members these are.
use Rattle.std.proofs.Common.{ℕ, ◌⊎◌, inl, inr, Bool, false, List, [], ◌∷◌, length, None, sym, subst, ap, ◌∙◌, arith}
use Rattle.std.specs.Prelude.{Contains, slice_index_or}
use Rattle.std.proofs.lemmas.List.Elements.{Contains-get_or}
use Rattle.switch_paths.specs.Graphs.{GraphData, IsStorage}
use Rattle.switch_paths.specs.declared.switching.Switch.{Switch}
use Rattle.switch_paths.specs.Path.{Joins}
use Rattle.group_meaning.specs.Groups.{AreJoined, LinksOver, Group, IsGroup, id_of}
use Rattle.group_meaning.proofs.LinkLemmas.{LinksOver-from, AreLinked-joined, AreLinked-trans}
use Rattle.group_rest.specs.Alike.{IsAlike}
use Rattle.machine_parts.proofs.CaseLemmas.{true_or_not}
use Rattle.vicinity.specs.NodeSets.{IsIn}
use Rattle.wide_groups.specs.Confined.{IsConfined, ConfinesNodes, ConfinesPlaces}

-- nodes become input nodes, and then switches are left out
pub IsConfined-from : (inside : List Bool) (g mid h : GraphData) → ConfinesNodes inside g mid → ConfinesPlaces inside mid h → IsConfined g inside h
IsConfined-from inside g mid h nodes_confined places_confined = record {
  count = ap length places_confined.levels ∙ nodes_confined.count;
  levels = λ node is. ap (λ levels. slice_index_or levels node 0) places_confined.levels ∙ nodes_confined.stays node is;
  edge = λ node below out. ap (λ levels. slice_index_or levels node 0) places_confined.levels ∙ nodes_confined.edge node below out;
  kept = λ place switch there is. places_confined.kept place switch (ap (λ places. slice_index_or places place None) nodes_confined.places ∙ there) is;
  only = λ place switch there.
      let (stood, is) = places_confined.only place switch there in
      (sym (ap (λ places. slice_index_or places place None) nodes_confined.places) ∙ stood, is);
}

module _ (g h : GraphData) (inside : List Bool) (confined : IsConfined g inside h) where
  -- the storage nodes are those of the set
  pub storage_inside : (node : ℕ) → IsStorage h node → IsIn inside node
  storage_inside node storage =
      elim (true_or_not (slice_index_or inside node false)) [
        | inl is ↦ is
        | inr out ↦ absurd (omega (arith, storage.below, confined.edge node (omega (arith, storage.inside, confined.count)) out))
      ]

  storage_here : (node : ℕ) → IsIn inside node → IsStorage g node → IsStorage h node
  storage_here node is storage = record {
    inside = omega (arith, storage.inside, confined.count);
    below = omega (arith, storage.below, confined.levels node is);
  }

  storage_there : (node : ℕ) → IsStorage h node → IsStorage g node
  storage_there node storage = record {
    inside = omega (arith, storage.inside, confined.count);
    below = omega (arith, storage.below, confined.levels node (storage_inside node storage));
  }

  -- a switch joins what it joins
  joined_there : (place m n : ℕ) → AreJoined h place m n → AreJoined g place m n
  joined_there place m n joined = record {
    switch = joined.switch;
    at_place = (confined.only place joined.switch joined.at_place).0;
    joins = joined.joins;
  }

  end_inside : (switch : Switch) (m n : ℕ) → Joins switch m n → IsIn inside m → IsIn inside switch.a ⊎ IsIn inside switch.b
  end_inside switch m n (inl first) is = inl (subst (IsIn inside) (sym first.0) is)
  end_inside switch m n (inr second) is = inr (subst (IsIn inside) (sym second.0) is)

  joined_here : (place m n : ℕ) → IsIn inside m → AreJoined g place m n → AreJoined h place m n
  joined_here place m n is joined = record {
    switch = joined.switch;
    at_place = confined.kept place joined.switch joined.at_place (end_inside joined.switch m n joined.joins is);
    joins = joined.joins;
  }

  links_there : (places : List ℕ) (m n : ℕ) → LinksOver h places m n → LinksOver g places m n
  links_there [] m n links = (storage_there m links.0, links.1)
  links_there (place ∷ places) m n links =
      (storage_there m links.0, (links.1.0, joined_there place m links.1.0 links.1.1, links_there places links.1.0 n links.1.2))

  module _ (group : Group) (is_group : IsGroup g group) (members : (node : ℕ) → Contains group.members node → IsIn inside node) where
    -- what a member is joined with is a member
    next_member : (place m n : ℕ) → Contains group.members m → IsStorage g m → IsStorage g n → AreJoined g place m n → Contains group.members n
    next_member place m n member from to joined =
        (is_group.class n).1
        (AreLinked-trans g (id_of group) m n ((is_group.class m).0 member) (AreLinked-joined g place m n from to joined))

    links_here : (places : List ℕ) (m n : ℕ) → Contains group.members m → LinksOver g places m n → LinksOver h places m n
    links_here [] m n member links = (storage_here m (members m member) links.0, links.1)
    links_here (place ∷ places) m n member links =
        let next = links.1.0 in
        let to = next_member place m next member links.0 (LinksOver-from g places next n links.1.2) links.1.1 in (
          storage_here m (members m member) links.0,
          (next, joined_here place m next (members m member) links.1.1, links_here places next n to links.1.2),
        )

    -- the group is one of the confined graph
    group_here : IsGroup h group
    group_here =
        let first : Contains group.members (id_of group) = Contains-get_or group.members 0 0 is_group.some in
        record {
          some = is_group.some;
          class = λ node. (
            (λ member.
                let linked = (is_group.class node).0 member in
                record { places = linked.places; links = links_here linked.places (id_of group) node first linked.links }),
            (λ linked. (is_group.class node).1 (record { places = linked.places; links = links_there linked.places (id_of group) node linked.links })),
          );
          ascending = is_group.ascending;
          switches = λ place. (
            (λ there.
                let touches = (is_group.switches place).0 there in
                record {
                  switch = touches.switch;
                  at_place = confined.kept place touches.switch touches.at_place
                      (elim touches.touches [ inl a ↦ inl (members touches.switch.a a) | inr b ↦ inr (members touches.switch.b b) ]);
                  touches = touches.touches;
                }),
            (λ touches. (is_group.switches place).1 (record {
              switch = touches.switch;
              at_place = (confined.only place touches.switch touches.at_place).0;
              touches = touches.touches;
            })),
          );
          switches_ascending = is_group.switches_ascending;
        }

    -- and is alike in both
    pub IsAlike-confined : IsAlike g h group
    IsAlike-confined = record {
      here = is_group;
      there = group_here;
      places = λ place there.
          let touches = (is_group.switches place).0 there in
          let stands = confined.kept place touches.switch touches.at_place
          (elim touches.touches [ inl a ↦ inl (members touches.switch.a a) | inr b ↦ inr (members touches.switch.b b) ]) in
          stands ∙ sym touches.at_place;
      levels = λ node member. confined.levels node (members node member);
    }
