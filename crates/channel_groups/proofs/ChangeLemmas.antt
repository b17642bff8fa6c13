-- A graph and the graph before an edit differ at the nodes that the edit changed, and nowhere else.
use Rattle.std.proofs.Common.{◌≡◌, ℕ, ◌+◌, ◌-◌, ◌<◌, ◌⊎◌, inl, inr, List, [], ◌∷◌, ◌++◌, length, get_or, take, Contains, Option, Some, None, refl, sym, ap, ◌∙◌, arith}
use Rattle.std.specs.Prelude.{slice_set}
use Rattle.std.specs.List.{range_with_len}
use Rattle.std.proofs.lemmas.Bool.{cases_lt, cases_eq}
use Rattle.std.proofs.lemmas.List.{length-set, length-take, get_or-set_same, get_or-set_other, get_or-take, set_past}
use Rattle.std.proofs.lemmas.List.Elements.{Contains-append_left, Contains-append_right}
use Rattle.std.proofs.lemmas.List.FromFn.{length-range_with_len, get_or-range_with_len}
use Rattle.list_facts.proofs.ContainsLemmas.{Contains-cons_first, Contains-cons_later}
use Rattle.switch_paths.specs.declared.switching.Switch.{Switch}
use Rattle.switch_paths.specs.Graphs.{GraphData, nodes, level_of, place_at}
use Rattle.switch_paths.specs.Path.{Joins}
use Rattle.group_meaning.specs.Groups.{AreJoined}
use Rattle.channel_groups.specs.declared.change.Change.{Change}
use Rattle.channel_groups.specs.Changes.{undo, with_place, with_level, ends_of, ends_before, ends_after, levelled, nodes_before, nodes_after, DifferAt}

-- the nodes that a switch joins are its ends
ends_joined : (there : Option Switch) (switch : Switch) (m n : ℕ) → there ≡ Some switch → Joins switch m n →
    Contains (ends_of there) m × Contains (ends_of there) n
ends_joined there switch m n is joins =
    rw is
    (elim joins [
      | inl ends ↦ (
        Contains-cons_first switch.a (switch.b ∷ []) m ends.0,
        Contains-cons_later switch.a (switch.b ∷ []) n (Contains-cons_first switch.b [] n ends.1),
      )
      | inr ends ↦ (
        Contains-cons_later switch.a (switch.b ∷ []) m (Contains-cons_first switch.b [] m ends.0),
        Contains-cons_first switch.a (switch.b ∷ []) n ends.1,
      )
    ])

-- with another switch at a place, all other places stay
place_differs : (places : List (Option Switch)) (old : ℕ × Option Switch) (place : ℕ) →
    (place_at (slice_set places old.0 old.1) place ≡ place_at places place)
    ⊎ ((place ≡ old.0) × (place_at (slice_set places old.0 old.1) place ≡ old.1))
place_differs places old place =
    elim (cases_eq place old.0) [
      | inl same ↦
          elim (cases_lt old.0 (length places)) [
            | inl inside ↦ inr (same, ap (place_at (slice_set places old.0 old.1)) same ∙ get_or-set_same places old.0 old.1 None inside)
            | inr past ↦ inl (ap (λ (xs : List (Option Switch)). place_at xs place) (set_past places old.0 old.1 past))
          ]
      | inr other ↦ inl (get_or-set_other places old.0 place old.1 None other)
    ]

module _ (h : GraphData) (change : Change) where
  joined : (place m n : ℕ) → AreJoined (undo h change) place m n →
      (place_at h.places place ≡ place_at (undo h change).places place) ⊎ (Contains (nodes_before change) m × Contains (nodes_before change) n)
  joined place m n at = by change.place at.at_place
    where
      by : (held : Option (ℕ × Option Switch)) → place_at (with_place held h.places) place ≡ Some at.switch →
          (place_at h.places place ≡ place_at (with_place held h.places) place)
          ⊎ (Contains (ends_before held ++ levelled change.level) m × Contains (ends_before held ++ levelled change.level) n)
      by None stands = inl refl
      by (Some old) stands =
          elim (place_differs h.places old place) [
            | inl same ↦ inl (sym same)
            | inr there ↦
                let ends = ends_joined old.1 at.switch m n (sym there.1 ∙ stands) at.joins in
                inr (Contains-append_left (ends_of old.1) (levelled change.level) m ends.0, Contains-append_left (ends_of old.1) (levelled change.level) n ends.1)
          ]

  joined_back : (place m n : ℕ) → AreJoined h place m n →
      (place_at (undo h change).places place ≡ place_at h.places place) ⊎ (Contains (nodes_after h change) m × Contains (nodes_after h change) n)
  joined_back place m n at = by change.place
    where
      by : (held : Option (ℕ × Option Switch)) →
          (place_at (with_place held h.places) place ≡ place_at h.places place)
          ⊎ (Contains (ends_after h held ++ (levelled change.level ++ range_with_len change.nodes (nodes h - change.nodes))) m
          × Contains (ends_after h held ++ (levelled change.level ++ range_with_len change.nodes (nodes h - change.nodes))) n)
      by None = inl refl
      by (Some old) =
          elim (place_differs h.places old place) [
            | inl same ↦ inl same
            | inr there ↦
                let more = levelled change.level ++ range_with_len change.nodes (nodes h - change.nodes) in
                let ends = ends_joined (place_at h.places old.0) at.switch m n (ap (place_at h.places) (sym there.0) ∙ at.at_place) at.joins in
                inr (Contains-append_left (ends_of (place_at h.places old.0)) more m ends.0, Contains-append_left (ends_of (place_at h.places old.0)) more n ends.1)
          ]

  -- a level that isn't changed is that of the first levels
  level_differs : (levels : List ℕ) (held : Option (ℕ × ℕ)) (node : ℕ) → (get_or (with_level held levels) node 0 ≡ get_or levels node 0) ⊎ Contains (levelled held) node
  level_differs levels None node = inl refl
  level_differs levels (Some old) node =
      elim (cases_eq node old.0) [
        | inl same ↦ inr (Contains-cons_first old.0 [] node (sym same))
        | inr other ↦ inl (get_or-set_other levels old.0 node old.1 0 other)
      ]

  length_differs : (levels : List ℕ) (held : Option (ℕ × ℕ)) → length (with_level held levels) ≡ length levels
  length_differs levels None = refl
  length_differs levels (Some old) = length-set levels old.0 old.1

  count_before : nodes (undo h change) ≡ length (take change.nodes h.levels)
  count_before = length_differs (take change.nodes h.levels) change.level

  levelled_after : (node : ℕ) → Contains (levelled change.level) node → Contains (nodes_after h change) node
  levelled_after node there =
      Contains-append_right (ends_after h change.place) (levelled change.level ++ range_with_len change.nodes (nodes h - change.nodes)) node
      (Contains-append_left (levelled change.level) (range_with_len change.nodes (nodes h - change.nodes)) node there)

  level : (node : ℕ) → node < nodes (undo h change) →
      ((node < nodes h) × (level_of h node ≡ level_of (undo h change) node)) ⊎ (Contains (nodes_before change) node × Contains (nodes_after h change) node)
  level node inside =
      let short = length-take change.nodes h.levels in
      elim (level_differs (take change.nodes h.levels) change.level node) [
        | inl same ↦
            inl (
              omega (arith, count_before, short),
              sym (same ∙ get_or-take change.nodes h.levels node 0 (omega (arith, count_before, short))),
            )
        | inr there ↦ inr (Contains-append_right (ends_before change.place) (levelled change.level) node there, levelled_after node there)
      ]

  level_back : (node : ℕ) → node < nodes h →
      ((node < nodes (undo h change)) × (level_of (undo h change) node ≡ level_of h node)) ⊎ Contains (nodes_after h change) node
  level_back node inside =
      let short = length-take change.nodes h.levels in
      elim (cases_lt node change.nodes) [
        | inl before ↦
            elim (level_differs (take change.nodes h.levels) change.level node) [
              | inl same ↦ inl (omega (arith, count_before, short), same ∙ get_or-take change.nodes h.levels node 0 before)
              | inr there ↦ inr (levelled_after node there)
            ]
        | inr new ↦
            let fits : node - change.nodes < nodes h - change.nodes = omega arith in
            let back : change.nodes + (node - change.nodes) ≡ node = omega arith in
            inr (Contains-append_right (ends_after h change.place) (levelled change.level ++ range_with_len change.nodes (nodes h - change.nodes)) node
            (Contains-append_right (levelled change.level) (range_with_len change.nodes (nodes h - change.nodes)) node (
              node - change.nodes,
              omega (arith, length-range_with_len change.nodes (nodes h - change.nodes)),
              get_or-range_with_len change.nodes (nodes h - change.nodes) (node - change.nodes) node fits ∙ back,
            )))
      ]

  -- the graph before the edit and the graph now
  pub DifferAt-undo : DifferAt (undo h change) h (nodes_before change) (nodes_after h change)
  DifferAt-undo = record { joined = joined; joined_back = joined_back; level = level; level_back = level_back }
