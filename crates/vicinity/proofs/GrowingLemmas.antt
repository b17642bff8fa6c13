-- New nodes come behind the others: who looks at an old one sees what there was, sets and lists say nothing of a new one, and groups and
-- vicinities stay.
use Rattle.std.proofs.Common.{◌≡◌, ℕ, zero, suc, ◌+◌, ◌-◌, ◌<◌, ◌≤◌, inl, inr, Bool, true, false, cond, List, [], ◌∷◌, ◌++◌, Some, length, take, refl, sym, ap, subst, ◌∙◌, arith}
use Rattle.std.specs.Prelude.{Contains, replicate, slice_index_or}
use Rattle.std.proofs.lemmas.Bool.{cases_lt}
use Rattle.std.proofs.lemmas.List.{length-append, length-replicate, get_or_append_left, get_or_at, take_all}
use Rattle.std.proofs.lemmas.List.Folds.{sum_by-replicate}
use Rattle.std.proofs.lemmas.List.Sums.{sum_by-append}
use Rattle.strength_order.specs.declared.TheConstants.{INPUT_LEVEL}
use Rattle.ternary.specs.declared.tern.Tern.{Tern}
use Rattle.ternary.specs.declared.tern.Tern.TheVariants.{Zero}
use Rattle.switch_paths.specs.declared.switching.Switch.{Switch}
use Rattle.switch_paths.specs.Switching.{is_live, state_at, state_by, switch_state_at}
use Rattle.switch_paths.specs.Graphs.{GraphData, IsWired, IsStorage, nodes, level_of, place_at}
use Rattle.switch_paths.proofs.PathLemmas.{switch_fits}
use Rattle.group_meaning.specs.Groups.{AreJoined, LinksOver, AreLinked, Group, IsGroup, id_of}
use Rattle.group_meaning.proofs.GroupLemmas.{member_storage}
use Rattle.group_rest.specs.Alike.{IsAlike}
use Rattle.machine_parts.specs.Marking.{count_marked, ListsMarked}
use Rattle.vicinity.specs.Vicinities.{live_graph, AreNear}
use Rattle.vicinity.specs.Lists.{LiveListData, LiveListsData, TellGates, list_at, places_of, all_at}
use Rattle.vicinity.specs.Arms.{LeadsTo}
use Rattle.vicinity.specs.LiveLists.{AreListsOf}
use Rattle.vicinity.specs.Growing.{grown_graph, no_places, with_lists}

-- more of what is read past the end makes no difference
pub default_more : {X : Type 0} (xs : List X) (x : X) (count n : ℕ) → slice_index_or (xs ++ replicate count x) n x ≡ slice_index_or xs n x
default_more [] x zero n = refl
default_more [] x (suc count) zero = refl
default_more [] x (suc count) (suc n) = default_more [] x count n
default_more (y ∷ xs) x count zero = refl
default_more (y ∷ xs) x count (suc n) = default_more xs x count n

-- behind some items stand those that came
behind : {X : Type 0} (xs : List X) (x d : X) (count n : ℕ) → length xs ≤ n → n < length xs + count → slice_index_or (xs ++ replicate count x) n d ≡ x
behind [] x d zero n low high = absurd (omega (arith, high))
behind [] x d (suc count) zero low high = refl
behind [] x d (suc count) (suc n) low high = behind [] x d count n (omega arith) (omega (arith, high))
behind (y ∷ xs) x d count zero low high = absurd (omega (arith, low))
behind (y ∷ xs) x d count (suc n) low high = behind xs x d count n (omega (arith, low)) (omega (arith, high))

-- a list that was filled up
pub filled_up : {X : Type 0} (xs : List X) (x : X) (count long : ℕ) → long ≡ length xs → length xs ≤ count →
    take count xs ++ replicate (count - long) x ≡ xs ++ replicate (count - length xs) x
filled_up xs x count long is few =
    ap (λ front. front ++ replicate (count - long) x) (take_all count xs few) ∙ ap (λ n. xs ++ replicate (count - n) x) is

-- has so many items
pub filled_count : {X : Type 0} (xs : List X) (x : X) (count : ℕ) → length xs ≤ count → length (xs ++ replicate (count - length xs) x) ≡ count
filled_count xs x count few = omega (arith, length-append xs (replicate (count - length xs) x), length-replicate (count - length xs) x, few)

-- no more nodes are in a set
count_marked-more : (marks : List Bool) (count : ℕ) → count_marked (marks ++ replicate count false) ≡ count_marked marks
count_marked-more marks count =
    omega (
      arith,
      sum_by-append (λ (mark : Bool). cond mark 1 0) marks (replicate count false),
      sum_by-replicate (λ (mark : Bool). cond mark 1 0) count false,
    )

-- the set is listed as before, and there is room for the new nodes
pub ListsMarked-grown : (marks : List Bool) (list : List ℕ) (capacity more : ℕ) (count : ℕ) → length marks + count ≤ more → ListsMarked marks list capacity →
    ListsMarked (marks ++ replicate count false) list more
ListsMarked-grown marks list capacity more count room lists = record {
  listed = λ k marked. lists.listed k (sym (default_more marks false count k) ∙ marked);
  only = λ k there. default_more marks false count k ∙ lists.only k there;
  once = lists.once;
  number = lists.number ∙ sym (count_marked-more marks count);
  room = omega (arith, room, length-append marks (replicate count false), length-replicate count false);
}

-- the graph with new nodes
module _ (g : GraphData) (count : ℕ) where
  abbrev h : GraphData
  h = grown_graph g count

  level_same : (node : ℕ) → node < nodes g → level_of h node ≡ level_of g node
  level_same node inside = get_or_append_left g.levels (replicate (count - nodes g) INPUT_LEVEL) 0 node inside

  pub count_grown : nodes h ≡ nodes g + (count - nodes g)
  count_grown =
      length-append g.levels (replicate (count - nodes g) INPUT_LEVEL) ∙ ap (λ n. nodes g + n) (length-replicate (count - nodes g) INPUT_LEVEL)

  -- its storage nodes are the same
  pub storage_grown : (node : ℕ) → IsStorage g node → IsStorage h node
  storage_grown node storage = record {
    inside = omega (arith, storage.inside, count_grown);
    below = omega (arith, storage.below, level_same node storage.inside);
  }

  pub storage_before : (node : ℕ) → IsStorage h node → IsStorage g node
  storage_before node storage =
      elim (cases_lt node (nodes g)) [
        | inl inside ↦ record { inside = inside; below = omega (arith, storage.below, level_same node inside) }
        | inr past ↦
            let input : level_of h node ≡ INPUT_LEVEL =
            behind g.levels INPUT_LEVEL 0 (count - nodes g) node past (omega (arith, storage.inside, count_grown)) in
            absurd (omega (arith, storage.below, input))
      ]

  joined_grown : (place m n : ℕ) → AreJoined g place m n → AreJoined h place m n
  joined_grown place m n joined = record { switch = joined.switch; at_place = joined.at_place; joins = joined.joins }

  joined_before : (place m n : ℕ) → AreJoined h place m n → AreJoined g place m n
  joined_before place m n joined = record { switch = joined.switch; at_place = joined.at_place; joins = joined.joins }

  links_grown : (places : List ℕ) (m n : ℕ) → LinksOver g places m n → LinksOver h places m n
  links_grown [] m n links = (storage_grown m links.0, links.1)
  links_grown (place ∷ places) m n links =
      (storage_grown m links.0, (links.1.0, joined_grown place m links.1.0 links.1.1, links_grown places links.1.0 n links.1.2))

  links_before : (places : List ℕ) (m n : ℕ) → LinksOver h places m n → LinksOver g places m n
  links_before [] m n links = (storage_before m links.0, links.1)
  links_before (place ∷ places) m n links =
      (storage_before m links.0, (links.1.0, joined_before place m links.1.0 links.1.1, links_before places links.1.0 n links.1.2))

  -- what is linked is linked
  linked_grown : (m n : ℕ) → AreLinked g m n → AreLinked h m n
  linked_grown m n linked = record { places = linked.places; links = links_grown linked.places m n linked.links }

  linked_before : (m n : ℕ) → AreLinked h m n → AreLinked g m n
  linked_before m n linked = record { places = linked.places; links = links_before linked.places m n linked.links }

  -- a group is one of both graphs
  pub IsAlike-grown : (group : Group) → IsGroup g group → IsAlike g h group
  IsAlike-grown group is_group = record {
    here = is_group;
    there = record {
      some = is_group.some;
      class = λ node. (
        (λ member. linked_grown (id_of group) node ((is_group.class node).0 member)),
        (λ linked. (is_group.class node).1 (linked_before (id_of group) node linked)),
      );
      ascending = is_group.ascending;
      switches = λ place. (
        (λ there.
            let touches = (is_group.switches place).0 there in
            record { switch = touches.switch; at_place = touches.at_place; touches = touches.touches }),
        (λ touches. (is_group.switches place).1 (record { switch = touches.switch; at_place = touches.at_place; touches = touches.touches })),
      );
      switches_ascending = is_group.switches_ascending;
    };
    places = λ place there. refl;
    levels = λ node member. level_same node (member_storage g group is_group node member).inside;
  }

-- what is near a node is near it with new nodes too
pub near_grown : (g : GraphData) (count : ℕ) (state : List Tern) (m n : ℕ) → AreNear g state m n → AreNear (grown_graph g count) state m n
near_grown g count state m n near = linked_grown (live_graph g state) count m n near

-- the states of the old nodes stay
pub state_before : (state more : List Tern) (node : ℕ) → node < length state → state_at (state ++ more) node ≡ state_at state node
state_before state more node inside = get_or_append_left state more Zero node inside

module _ (g : GraphData) (wired : IsWired g) (count : ℕ) (state more : List Tern) (counted : length state ≡ nodes g) where
  -- so switches do
  pub switch_before : (place : ℕ) (switch : Switch) → place_at g.places place ≡ Some switch →
      switch_state_at (state ++ more) switch ≡ switch_state_at state switch
  switch_before place switch stands =
      ap (state_by switch.kind) (state_before state more switch.gate (omega (arith, counted, (switch_fits g wired place switch stands).gate)))

  leads_grown : (place node other : ℕ) → LeadsTo g state place node other → LeadsTo (grown_graph g count) (state ++ more) place node other
  leads_grown place node other leads = record {
    switch = leads.switch;
    at_place = leads.at_place;
    joins = leads.joins;
    live = ap is_live (switch_before place leads.switch leads.at_place) ∙ leads.live;
  }

  leads_before : (place node other : ℕ) → LeadsTo (grown_graph g count) (state ++ more) place node other → LeadsTo g state place node other
  leads_before place node other leads = record {
    switch = leads.switch;
    at_place = leads.at_place;
    joins = leads.joins;
    live = sym (ap is_live (switch_before place leads.switch leads.at_place)) ∙ leads.live;
  }

  -- the lists with new ones without places are those of the graph with new nodes
  pub AreListsOf-grown : (lists : LiveListsData) → AreListsOf g state lists →
      AreListsOf (grown_graph g count) (state ++ more) (with_lists lists (count - nodes g))
  AreListsOf-grown lists are =
      let new : ℕ = count - nodes g in
      let ends_same : (node : ℕ) → slice_index_or (lists.ends ++ replicate new no_places) node no_places ≡ slice_index_or lists.ends node no_places =
      default_more lists.ends no_places new in
      let gates_same : (node : ℕ) → slice_index_or (lists.gates ++ replicate new no_places) node no_places ≡ slice_index_or lists.gates node no_places =
      default_more lists.gates no_places new in
      let front : (node place : ℕ) → places_of (lists.ends ++ replicate new no_places) node ≡ places_of lists.ends node =
      λ node place. ap (λ (list : LiveListData). list.items) (ends_same node) in
      let whole : (node place : ℕ) → all_at (lists.ends ++ replicate new no_places) node ≡ all_at lists.ends node =
      λ node place. ap (λ (list : LiveListData). list.all) (ends_same node) in
      let gated : (node place : ℕ) → places_of (lists.gates ++ replicate new no_places) node ≡ places_of lists.gates node =
      λ node place. ap (λ (list : LiveListData). list.items) (gates_same node) in
      record {
        count = length-append lists.ends (replicate new no_places)
            ∙ (ap (λ n. length lists.ends + n) (length-replicate new no_places) ∙ (ap (λ n. n + new) are.count ∙ sym (count_grown g count)));
        live = λ node place. (
          (λ there.
              let leads = (are.live node place).0 (subst (λ xs. Contains xs place) (front node place) there) in
              (leads.0, leads_grown place node leads.0 leads.1)),
          (λ leads.
              subst (λ xs. Contains xs place) (sym (front node place)) ((are.live node place).1 (leads.0, leads_before place node leads.0 leads.1))),
        );
        whole = λ node place. (
          (λ there.
              let has = (are.whole node place).0 (subst (λ xs. Contains xs place) (whole node place) there) in
              record { switch = has.switch; at_place = has.at_place; other = has.other; joins = has.joins }),
          (λ has.
              subst (λ xs. Contains xs place) (sym (whole node place))
              ((are.whole node place).1 (record { switch = has.switch; at_place = has.at_place; other = has.other; joins = has.joins }))),
        );
        gated = λ node place. (
          (λ there.
              let has = (are.gated node place).0 (subst (λ xs. Contains xs place) (gated node place) there) in
              record { switch = has.switch; at_place = has.at_place; gated = has.gated }),
          (λ has.
              subst (λ xs. Contains xs place) (sym (gated node place))
              ((are.gated node place).1 (record { switch = has.switch; at_place = has.at_place; gated = has.gated }))),
        );
      }

-- flags tell of gates still if more nodes come that are none
pub TellGates-grown : (flags : List Bool) (gates new : List LiveListData) → (count : ℕ) × (new ≡ gates ++ replicate count no_places) → TellGates flags gates →
    TellGates flags new
TellGates-grown flags gates new (count, is) tell node inside unmarked =
    let same : list_at new node ≡ list_at gates node = ap (λ lists. list_at lists node) is ∙ default_more gates no_places count node in
    ap (λ (list : LiveListData). length list.items) same ∙ tell node inside unmarked

-- one flag more
pub TellGates-more : (flags : List Bool) (flag : Bool) (gates : List LiveListData) → TellGates flags gates →
    (flag ≡ false → length (places_of gates (length flags)) ≡ 0) → TellGates (flags ++ flag ∷ []) gates
TellGates-more flags flag gates tell of_last node inside unmarked =
    elim (cases_lt node (length flags)) [
      | inl less ↦ tell node less (λ marked. unmarked (get_or_append_left flags (flag ∷ []) false node less ∙ marked))
      | inr most ↦
          let last : length flags ≡ node = omega (arith, most, inside, length-append flags (flag ∷ [])) in
          subst (λ n. length (places_of gates n) ≡ 0) last (of_last (unset flag (λ set. unmarked (get_or_at flags flag [] false node last ∙ set))))
    ]
  where
    unset : (b : Bool) → (¬ (b ≡ true)) → b ≡ false
    unset true out = absurd (out refl)
    unset false out = refl
