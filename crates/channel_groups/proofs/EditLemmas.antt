-- The graph before each kind of edit: another switch at a place, another level of a node, a node more, a place more.
use Rattle.std.proofs.Common.{◌≡◌, ℕ, inl, inr, List, [], ◌∷◌, ◌++◌, length, get_or, take, Option, Some, None, refl, sym, ap, ◌∙◌, arith}
use Rattle.std.specs.Prelude.{slice_set}
use Rattle.std.proofs.lemmas.List.{length-set, take_all, take_at, set-set, set-get_or, set_at}
use Rattle.switch_paths.specs.declared.switching.Switch.{Switch}
use Rattle.switch_paths.specs.Graphs.{GraphData, nodes, level_of, place_at}
use Rattle.group_meaning.specs.Groups.{Group, AreGroups}
use Rattle.channel_groups.specs.Changes.{undo, DifferAt}
use Rattle.channel_groups.specs.Listing.{AreListed}
use Rattle.channel_groups.specs.Grouping.{GroupsData, AreOf, list_at}
use Rattle.channel_groups.proofs.StoreLemmas.{same_more}
use Rattle.channel_groups.proofs.UntouchedLemmas.{IsGroup-untouched}

module _ (g : GraphData) where
  -- another switch, or none, at a place
  pub undo-put : (place : ℕ) (switch : Option Switch) →
      undo (record g { places = slice_set g.places place switch }) (record { nodes = nodes g; place = Some (place, place_at g.places place); level = None }) ≡ g
  undo-put place switch =
      let levels : take (nodes g) g.levels ≡ g.levels = take_all (nodes g) g.levels (omega arith) in
      let places : slice_set (slice_set g.places place switch) place (place_at g.places place) ≡ g.places =
      set-set g.places place switch (place_at g.places place) ∙ set-get_or g.places place None in
      λ i. record { levels = levels i; places = places i }

  -- another level of a node
  pub undo-level : (node level : ℕ) →
      undo (record g { levels = slice_set g.levels node level }) (record { nodes = nodes g; place = None; level = Some (node, level_of g node) }) ≡ g
  undo-level node level =
      let count = length-set g.levels node level in
      let levels : slice_set (take (nodes g) (slice_set g.levels node level)) node (level_of g node) ≡ g.levels =
      ap (λ (xs : List ℕ). slice_set xs node (level_of g node)) (take_all (nodes g) (slice_set g.levels node level) (omega arith))
      ∙ set-set g.levels node level (level_of g node) ∙ set-get_or g.levels node 0 in
      λ i. record { levels = levels i; places = g.places }

  -- a node more
  pub undo-node : (level : ℕ) →
      undo (record g { levels = g.levels ++ level ∷ [] }) (record { nodes = nodes g; place = None; level = None }) ≡ g
  undo-node level = λ i. record { levels = take_at g.levels (level ∷ []) (nodes g) refl i; places = g.places }

  -- a place more: before it the place was there, and empty
  pub undo-switch : (switch : Switch) →
      undo (record g { places = g.places ++ Some switch ∷ [] }) (record { nodes = nodes g; place = Some (length g.places, None); level = None })
      ≡ record g { places = g.places ++ None ∷ [] }
  undo-switch switch =
      let levels : take (nodes g) g.levels ≡ g.levels = take_all (nodes g) g.levels (omega arith) in
      λ i. record { levels = levels i; places = set_at g.places (Some switch) [] None (length g.places) refl i }

-- an empty place more at the end changes no group and no list
module _ (g : GraphData) where
  abbrev more : GraphData
  more = record g { places = g.places ++ None ∷ [] }

  same : (place : ℕ) → place_at more.places place ≡ place_at g.places place
  same place = same_more Switch g.places place

  differ : DifferAt g more [] []
  differ = record {
    joined = λ place m n at. inl (same place);
    joined_back = λ place m n at. inl (sym (same place));
    level = λ node inside. inl (inside, refl);
    level_back = λ node inside. inl (inside, refl);
  }

  groups_stay : (groups : List Group) → AreGroups g groups → AreGroups more groups
  groups_stay groups are = record {
    each = λ k d inside.
        IsGroup-untouched g more [] [] differ (get_or groups k d) (are.each k d inside) (λ n member changed. absurd (omega (arith, changed.1)))
        (λ n. ⊥) (λ a b none linked. none) (λ n storage changed. absurd (omega (arith, changed.1))) (λ n member none. none);
    whole = λ node storage. are.whole node (record { inside = storage.inside; below = storage.below });
    ascending = are.ascending;
  }

  lists_stay : (end : Switch → ℕ) (lists : ℕ → List ℕ) → AreListed end g None lists → AreListed end more None lists
  lists_stay end lists listed = record {
    all = λ place node at.
        listed.all place node (record { switch = at.switch; at_place = sym (same place) ∙ at.at_place; at_node = at.at_node });
    only = λ place node there. elim (listed.only place node there) [
      | inl at ↦ inl (record { switch = at.switch; at_place = same place ∙ at.at_place; at_node = at.at_node })
      | inr none ↦ inr none
    ];
    distinct = listed.distinct;
  }

  pub AreOf-empty_place : (found : GroupsData) → AreOf g found → AreOf (record g { places = g.places ++ None ∷ [] }) found
  AreOf-empty_place found are = record {
    are = groups_stay found.groups are.are;
    nodes = are.nodes;
    firsts = lists_stay (λ switch. switch.a) (list_at found.firsts) are.firsts;
    seconds = lists_stay (λ switch. switch.b) (list_at found.seconds) are.seconds;
  }
