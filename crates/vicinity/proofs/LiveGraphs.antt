-- The graph without its open switches: it has the same paths under the state, so the same nodes are beaten, the same paths are unblocked, and
-- nodes respond alike.
use Rattle.std.proofs.Common.{◌≡◌, ℕ, ◌<◌, Bool, true, inl, inr, if◌then◌else◌, List, [], ◌∷◌, length, map, Option, Some, None, sym, ap, ◌∙◌, arith}
use Rattle.std.specs.Prelude.{slice_index_or}
use Rattle.std.proofs.lemmas.Bool.{cases_Bool}
use Rattle.std.proofs.lemmas.List.{length-map, get_or-map}
use Rattle.ternary.specs.declared.tern.Tern.{Tern}
use Rattle.ternary.specs.Tern.{may_one, may_zero}
use Rattle.switch_paths.specs.declared.switching.Switch.{Switch}
use Rattle.switch_paths.specs.Switching.{is_live, switch_state_at}
use Rattle.switch_paths.specs.Graphs.{GraphData, IsWired, FitsPlace, place_at, IsStorage}
use Rattle.switch_paths.specs.Path.{Stand, Hop, Leads, at_root, LivePath, IsBlocked, Reaches}
use Rattle.switch_paths.specs.Step.{Responds}
use Rattle.switch_paths.proofs.PathLemmas.{IsBeaten-path, place_inside}
use Rattle.group_meaning.specs.Groups.{AreJoined, LinksOver}
use Rattle.group_meaning.specs.Laws.{StandsAt}
use Rattle.group_meaning.proofs.StoragePaths.{in_one_group}
use Rattle.vicinity.specs.Vicinities.{live_place, live_graph}
use Rattle.vicinity.specs.Laws.{UnblockedPathsStayInOneVicinity, OpenSwitchesDontMatter, NearNodesAreLinked}

-- a switch that isn't open stands where it stood
pub live_stands : (g : GraphData) (state : List Tern) (place : ℕ) (switch : Switch) → place_at g.places place ≡ Some switch →
    is_live (switch_state_at state switch) ≡ true → place_at (map (live_place state) g.places) place ≡ Some switch
live_stands g state place switch stands live =
    get_or-map (live_place state) g.places place None None (place_inside g.places place switch stands)
    ∙ (ap (live_place state) stands ∙ ap (λ (test : Bool). if test then Some switch else None) live)

-- a switch that is left stood there, and isn't open
left_live : (state : List Tern) (stands : Option Switch) (switch : Switch) → live_place state stands ≡ Some switch →
    (stands ≡ Some switch) × (is_live (switch_state_at state switch) ≡ true)
left_live state None switch left = absurd (cc)
left_live state (Some other) switch left =
    elim (cases_Bool (is_live (switch_state_at state other))) [
      | inl live ↦ let same : Some other ≡ Some switch = sym (ap (λ (test : Bool). if test then Some other else None) live) ∙ left in
          let one : other ≡ switch = cc in
          (same, ap (λ (s : Switch). is_live (switch_state_at state s)) (sym one) ∙ live)
      | inr opened ↦ let none : None ≡ Some switch = sym (ap (λ (test : Bool). if test then Some other else None) opened) ∙ left in absurd (cc)
    ]

pub stands_live : (g : GraphData) (state : List Tern) (place : ℕ) (switch : Switch) →
    place_at (map (live_place state) g.places) place ≡ Some switch →
    (place_at g.places place ≡ Some switch) × (is_live (switch_state_at state switch) ≡ true)
stands_live g state place switch left =
    let inside : place < length g.places =
    omega (arith, place_inside (map (live_place state) g.places) place switch left, length-map g.places (live_place state)) in
    left_live state (place_at g.places place) switch
    (sym (get_or-map (live_place state) g.places place None None inside) ∙ left)

-- a fitting place fits without its switch too
live_fits : (state : List Tern) (count : ℕ) (place : Option Switch) → FitsPlace count place → FitsPlace count (live_place state place)
live_fits state count None fits = fits
live_fits state count (Some switch) fits =
    elim (cases_Bool (is_live (switch_state_at state switch))) [ inl live ↦ rw live fits | inr opened ↦ rw opened tt ]

pub live_wired : (g : GraphData) (state : List Tern) → IsWired g → IsWired (live_graph g state)
live_wired g state wired = record {
  levels = wired.levels;
  places = λ place default inside.
      let within : place < length g.places = omega (arith, inside, length-map g.places (live_place state)) in
      rw (get_or-map (live_place state) g.places place None default within)
      (live_fits state (length g.levels) (slice_index_or g.places place None) (wired.places place None within));
}

-- two graphs with the same levels, the first of which has no hop that the second hasn't
module _ (levels : List ℕ) (one two : List (Option Switch)) (a b : List Tern)
    (over : (here there : Stand) (place : ℕ) → Hop (record { levels = levels; places = one }) a here place there →
    Hop (record { levels = levels; places = two }) b here place there) where
  abbrev g : GraphData
  g = record { levels = levels; places = one }

  abbrev h : GraphData
  h = record { levels = levels; places = two }

  Leads-over : (hops : List ℕ) (here there : Stand) → Leads g a here hops there → Leads h b here hops there
  Leads-over [] here there leads = leads
  Leads-over (place ∷ hops) here there leads = (leads.0, over here leads.0 place leads.1, Leads-over hops leads.0 there leads.2)

  pub LivePath-over : (root : ℕ) (hops : List ℕ) (there : Stand) → LivePath g a root hops there → LivePath h b root hops there
  LivePath-over root hops there path =
      record { in_range = path.in_range; leads = Leads-over hops (at_root g root) there path.leads }

  pub IsBlocked-over : (root : ℕ) (hops : List ℕ) → IsBlocked g a root hops → IsBlocked h b root hops
  IsBlocked-over root hops blocked =
      let beaten = blocked.beaten in
      record {
        front = blocked.front;
        back = blocked.back;
        splits = blocked.splits;
        there = blocked.there;
        prefix = LivePath-over root blocked.front blocked.there blocked.prefix;
        beaten = IsBeaten-path beaten.root beaten.hops beaten.there (LivePath-over beaten.root beaten.hops beaten.there beaten.path)
            beaten.ends beaten.definite beaten.strong;
      }

-- the hops of the two graphs
module _ (g : GraphData) (state : List Tern) where
  pub hop_live : (here there : Stand) (place : ℕ) → Hop g state here place there → Hop (live_graph g state) state here place there
  hop_live here there place hop = record {
    switch = hop.switch;
    at_place = live_stands g state place hop.switch hop.at_place hop.live;
    joins = hop.joins;
    live = hop.live;
    strength = hop.strength;
    definite = hop.definite;
  }

  pub hop_whole : (here there : Stand) (place : ℕ) → Hop (live_graph g state) state here place there → Hop g state here place there
  hop_whole here there place hop = record {
    switch = hop.switch;
    at_place = (stands_live g state place hop.switch hop.at_place).0;
    joins = hop.joins;
    live = hop.live;
    strength = hop.strength;
    definite = hop.definite;
  }

  abbrev lives : List (Option Switch)
  lives = map (live_place state) g.places

  -- a path that isn't blocked without the open switches isn't blocked, and the other way round
  pub unblocked_live : (root : ℕ) (hops : List ℕ) → (¬ IsBlocked g state root hops) → ¬ IsBlocked (live_graph g state) state root hops
  unblocked_live root hops unblocked blocked = unblocked (IsBlocked-over g.levels lives g.places state state hop_whole root hops blocked)

  pub unblocked_whole : (root : ℕ) (hops : List ℕ) → (¬ IsBlocked (live_graph g state) state root hops) → ¬ IsBlocked g state root hops
  unblocked_whole root hops unblocked blocked = unblocked (IsBlocked-over g.levels g.places lives state state hop_live root hops blocked)

  reaches_live : (root node : ℕ) → Reaches g state root node → Reaches (live_graph g state) state root node
  reaches_live root node reached = record {
    hops = reached.hops;
    there = reached.there;
    path = LivePath-over g.levels g.places lives state state hop_live root reached.hops reached.there reached.path;
    ends = reached.ends;
    unblocked = unblocked_live root reached.hops reached.unblocked;
  }

  reaches_whole : (root node : ℕ) → Reaches (live_graph g state) state root node → Reaches g state root node
  reaches_whole root node reached = record {
    hops = reached.hops;
    there = reached.there;
    path = LivePath-over g.levels lives g.places state state hop_whole root reached.hops reached.there reached.path;
    ends = reached.ends;
    unblocked = unblocked_whole root reached.hops reached.unblocked;
  }

  responds_live : (rail : Tern → Bool) (node : ℕ) → Responds rail g state node → Responds rail (live_graph g state) state node
  responds_live rail node way = (way.0, reaches_live way.0 node way.1, way.2)

  responds_whole : (rail : Tern → Bool) (node : ℕ) → Responds rail (live_graph g state) state node → Responds rail g state node
  responds_whole rail node way = (way.0, reaches_whole way.0 node way.1, way.2)

  stands_at_live : (root : ℕ) (hops : List ℕ) (count : ℕ) (there : Stand) → StandsAt g state root hops count there →
      StandsAt (live_graph g state) state root hops count there
  stands_at_live root hops count there stands = record {
    front = stands.front;
    back = stands.back;
    splits = stands.splits;
    counted = stands.counted;
    prefix = LivePath-over g.levels g.places lives state state hop_live root stands.front there stands.prefix;
  }

  -- storage nodes are the same
  pub storage_live : (node : ℕ) → IsStorage g node → IsStorage (live_graph g state) node
  storage_live node storage = record { inside = storage.inside; below = storage.below }

  pub storage_whole : (node : ℕ) → IsStorage (live_graph g state) node → IsStorage g node
  storage_whole node storage = record { inside = storage.inside; below = storage.below }

  -- a switch that isn't open joins what it joins
  pub joined_whole : (place m n : ℕ) → AreJoined (live_graph g state) place m n → AreJoined g place m n
  joined_whole place m n joined = record {
    switch = joined.switch;
    at_place = (stands_live g state place joined.switch joined.at_place).0;
    joins = joined.joins;
  }

  links_whole : (places : List ℕ) (m n : ℕ) → LinksOver (live_graph g state) places m n → LinksOver g places m n
  links_whole [] m n links = (storage_whole m links.0, links.1)
  links_whole (place ∷ places) m n links =
      (storage_whole m links.0, (links.1.0, joined_whole place m links.1.0 links.1.1, links_whole places links.1.0 n links.1.2))

-- all storage nodes on an unblocked path are near each other
pub in_one_vicinity : UnblockedPathsStayInOneVicinity
in_one_vicinity g wired state root hops unblocked first second m n one two from to =
    in_one_group (live_graph g state) (live_wired g state wired) state root hops (unblocked_live g state root hops unblocked) first second m n
    (stands_at_live g state root hops first m one) (stands_at_live g state root hops second n two)
    (storage_live g state m.node from) (storage_live g state n.node to)

-- open switches don't matter to a steady state
pub open_dont_matter : OpenSwitchesDontMatter
open_dont_matter g state node answer = (
  λ live. record {
    one = ((λ set. responds_whole g state may_one node (live.one.0 set)), (λ way. live.one.1 (responds_live g state may_one node way)));
    zero = ((λ set. responds_whole g state may_zero node (live.zero.0 set)), (λ way. live.zero.1 (responds_live g state may_zero node way)));
  },
  λ whole. record {
    one = ((λ set. responds_live g state may_one node (whole.one.0 set)), (λ way. whole.one.1 (responds_whole g state may_one node way)));
    zero = ((λ set. responds_live g state may_zero node (whole.zero.0 set)), (λ way. whole.zero.1 (responds_whole g state may_zero node way)));
  },
)

-- near nodes are linked
pub near_linked : NearNodesAreLinked
near_linked g state m n near = record { places = near.places; links = links_whole g state near.places m n near.links }
