-- A set of storage nodes that no switch which isn't open leads out of, and at which no switch changes between two states: unblocked paths that
-- lead into it are the same under both, and start within it or at an input node at its edge.
-- A definite path that leads into it is followed from its root: while it stands outside, a node within can only be reached from an input node,
-- which is as strong as any root.
use Rattle.std.proofs.Common.{◌≡◌, ℕ, ◌<◌, ◌≤◌, min, true, inl, inr, ◌⊎◌, List, [], ◌∷◌, Some, refl, sym, ap, ◌∙◌, subst, arith}
use Rattle.std.proofs.lemmas.Bool.{cases_lt}
use Rattle.ternary.specs.declared.tern.Tern.{Tern}
use Rattle.strength_order.specs.declared.TheConstants.{INPUT_LEVEL}
use Rattle.switch_paths.specs.declared.switching.Switch.{Switch}
use Rattle.switch_paths.specs.Switching.{is_closed, is_live, switch_state_at}
use Rattle.switch_paths.specs.Graphs.{GraphData, IsWired, IsStorage, nodes, level_of, place_at}
use Rattle.switch_paths.specs.Path.{Stand, Joins, Hop, Leads, at_root, LivePath, IsBeaten, Reaches}
use Rattle.switch_paths.proofs.PathLemmas.{IsBeaten-path, level_fits, Hop-in_range, Leads-definite, Leads-weaker, IsBeaten-by_level, Goes, Goes-here, Goes-from_Reaches, Reaches-from_Goes}
use Rattle.switch_paths.proofs.SameSwitchesLemmas.{Hop-carried}
use Rattle.switch_paths.proofs.StrongestPaths.{surely, Definite, onward, and-second}
use Rattle.group_meaning.specs.Groups.{AreJoined}
use Rattle.group_meaning.proofs.LinkLemmas.{Joins-sym}
use Rattle.group_meaning.proofs.StoragePaths.{hop_to_storage}
use Rattle.vicinity.specs.Vicinities.{live_graph}
use Rattle.vicinity.proofs.LiveGraphs.{live_stands}

-- a node is a storage node or an input node
pub storage_or_input : (g : GraphData) → IsWired g → (node : ℕ) → node < nodes g → IsStorage g node ⊎ (level_of g node ≡ INPUT_LEVEL)
storage_or_input g wired node in_range =
    elim (cases_lt (level_of g node) INPUT_LEVEL) [
      | inl below ↦ inl (record { inside = in_range; below = below })
      | inr above ↦ inr (omega (arith, (level_fits g wired node in_range).high))
    ]

-- nothing is stronger than an input node
pub input_unbeaten : (g : GraphData) → IsWired g → (state : List Tern) (node strength : ℕ) → INPUT_LEVEL ≤ strength → ¬ IsBeaten g state node strength
input_unbeaten g wired state node strength high beaten =
    let weaker = Leads-weaker g state beaten.hops (at_root g beaten.root) beaten.there beaten.path.leads in
    absurd (omega (arith, weaker, beaten.strong, (level_fits g wired beaten.root beaten.path.in_range).high))

-- a definite path that is at least as strong leads to the node
pub record IsReachedSurely (g : GraphData) (state : List Tern) (node strength : ℕ) : Type 0 where
  pub most : ℕ
  pub way : Definite g state node most
  pub enough : strength ≤ most

-- no switch that isn't open leads out of the set, but to an input node
pub record IsClosedSet (g : GraphData) (state : List Tern) (In : ℕ → Type 0) : Type 0 where
  pub storage : (node : ℕ) → In node → IsStorage g node
  pub closed : (place m n : ℕ) (switch : Switch) → place_at g.places place ≡ Some switch → Joins switch m n →
      is_live (switch_state_at state switch) ≡ true → In m → IsStorage g n → In n

-- at these nodes the switches have the same states under both
abbrev pub SwitchesStay : GraphData → List Tern → List Tern → (ℕ → Type 0) → Type 0
SwitchesStay g old new In =
    (place m n : ℕ) (switch : Switch) → place_at g.places place ≡ Some switch → Joins switch m n → In n →
    switch_state_at new switch ≡ switch_state_at old switch

-- then it is closed under the other state too
pub closed_stays : (g : GraphData) (old new : List Tern) (In : ℕ → Type 0) → IsClosedSet g old In → SwitchesStay g old new In →
    IsClosedSet g new In
closed_stays g old new In set stay = record {
  storage = set.storage;
  closed = λ place m n switch stands joins live inside storage.
      let same = stay place n m switch stands (Joins-sym switch m n joins) inside in
      set.closed place m n switch stands joins (ap is_live (sym same) ∙ live) inside storage;
}

pub SwitchesStay-sym : (g : GraphData) (old new : List Tern) (In : ℕ → Type 0) → SwitchesStay g old new In → SwitchesStay g new old In
SwitchesStay-sym g old new In stay place m n switch stands joins inside = sym (stay place m n switch stands joins inside)

module _ (g : GraphData) (wired : IsWired g) (old new : List Tern) (In : ℕ → Type 0) (set : IsClosedSet g old In)
    (stay : SwitchesStay g old new In) where
  -- a hop into the set starts in it, or at an input node
  pub hop_from : (here next : Stand) (place : ℕ) → Hop g old here place next → here.node < nodes g → In next.node →
      In here.node ⊎ (level_of g here.node ≡ INPUT_LEVEL)
  hop_from here next place hop in_range inside =
      elim (storage_or_input g wired here.node in_range) [
        | inl storage ↦
            let back = Joins-sym hop.switch here.node next.node hop.joins in
            inl (set.closed place next.node here.node hop.switch hop.at_place back hop.live inside storage)
        | inr input ↦ inr input
      ]

  -- it is a hop under the other state
  hop_stays : (here next : Stand) (place : ℕ) → Hop g old here place next → In next.node → Hop g new here place next
  hop_stays here next place hop inside =
      Hop-carried g old new here next place hop (sym (stay place here.node next.node hop.switch hop.at_place hop.joins inside))

  -- if a definite path stands in the set, one that is as strong leads there under the other state
  surely_stays : (hops : List ℕ) (here there : Stand) → Leads g old here hops there → here.node < nodes g → here.strength ≤ INPUT_LEVEL →
      there.definite ≡ true → In there.node → (In here.node → IsReachedSurely g new here.node here.strength) →
      IsReachedSurely g new there.node there.strength
  surely_stays [] here there leads in_range high definite inside way =
      subst (λ (x : Stand). IsReachedSurely g new x.node x.strength) leads
      (way (subst (λ (x : Stand). In x.node) (sym leads) inside))
  surely_stays (place ∷ hops) here there leads in_range high definite inside way =
      let next = leads.0 in
      let hop = leads.1 in
      let next_definite = Leads-definite g old hops next there leads.2 definite in
      let closed = and-second here.definite (is_closed (switch_state_at old hop.switch)) (rw hop.definite at next_definite) in
      let step : In next.node → IsReachedSurely g new next.node next.strength = λ within.
      let closed_too : is_closed (switch_state_at new hop.switch) ≡ true =
      ap is_closed (stay place here.node next.node hop.switch hop.at_place hop.joins within) ∙ closed in
      let before : IsReachedSurely g new here.node here.strength =
      elim (hop_from here next place hop in_range within) [
        | inl here_in ↦ way here_in
        | inr input ↦
            let path : LivePath g new here.node [] (surely here.node INPUT_LEVEL) =
            record { in_range = in_range; leads = ap (surely here.node) input } in
            record { most = INPUT_LEVEL; way = record { root = here.node; hops = []; path = path }; enough = high }
      ] in
      record {
        most = min before.most hop.switch.level;
        way = onward g wired new here.node next.node before.most place hop.switch before.way hop.at_place hop.joins closed_too (omega arith);
        enough = omega (arith, hop.strength, before.enough);
      } in
      surely_stays hops next there leads.2 (Hop-in_range wired hop) (omega (arith, hop.strength)) definite inside step

  -- so what is beaten in the set is beaten under the other state
  beaten_stays : (node strength : ℕ) → In node → IsBeaten g old node strength → IsBeaten g new node strength
  beaten_stays node strength inside beaten =
      let root = beaten.root in
      let in_range = beaten.path.in_range in
      let level = level_fits g wired root in_range in
      let itself : In root → IsReachedSurely g new root (level_of g root) = λ within. record {
        most = level_of g root;
        way = record { root = root; hops = []; path = record { in_range = in_range; leads = refl } };
        enough = omega arith;
      } in
      let way = surely_stays beaten.hops (at_root g root) beaten.there beaten.path.leads in_range level.high beaten.definite
      (subst In (sym beaten.ends) inside) itself in
      IsBeaten-path way.way.root way.way.hops (surely beaten.there.node way.most) way.way.path beaten.ends refl
      (omega (arith, beaten.strong, way.enough))

-- where an unblocked path starts that leads into the set: in it, or at an input node that a switch joins with it which isn't open
pub data StartsAt (g : GraphData) (state : List Tern) (In : ℕ → Type 0) (node : ℕ) : Type 0 where
  within : In node → StartsAt g state In node
  edge : level_of g node ≡ INPUT_LEVEL → (place n : ℕ) → AreJoined (live_graph g state) place n node → In n → StartsAt g state In node

module _ (g : GraphData) (wired : IsWired g) (old new : List Tern) (In : ℕ → Type 0) (set : IsClosedSet g old In)
    (stay : SwitchesStay g old new In) where
  -- what isn't beaten in the set isn't under the other state either
  unbeaten_stays : (node strength : ℕ) → In node → (¬ IsBeaten g old node strength) → ¬ IsBeaten g new node strength
  unbeaten_stays node strength inside free beaten =
      free (beaten_stays g wired new old In (closed_stays g old new In set stay) (SwitchesStay-sym g old new In stay) node strength inside beaten)

  -- nor at an input node
  unbeaten_input : (node strength : ℕ) → node < nodes g → level_of g node ≡ INPUT_LEVEL → (¬ IsBeaten g old node strength) →
      ¬ IsBeaten g new node strength
  unbeaten_input node strength in_range input free =
      elim (cases_lt strength INPUT_LEVEL) [
        | inl below ↦ absurd (free (IsBeaten-by_level g old node strength in_range (omega (arith, input))))
        | inr above ↦ input_unbeaten g wired new node strength above
      ]

  -- an unblocked path that leads into the set goes under the other state too, and starts in it or at its edge
  pub goes_stays : (hops : List ℕ) (here there : Stand) → Goes g old here hops there → here.node < nodes g → In there.node →
      StartsAt g old In here.node × Goes g new here hops there
  goes_stays [] here there goes in_range inside =
      let here_in : In here.node = subst (λ (x : Stand). In x.node) (sym goes.1) inside in
      (within here_in, (unbeaten_stays here.node here.strength here_in goes.0, goes.1))
  goes_stays (place ∷ hops) here there goes in_range inside =
      let next = goes.1.0 in
      let hop = goes.1.1 in
      let rest = goes_stays hops next there goes.1.2 (Hop-in_range wired hop) inside in
      let storage = hop_to_storage g wired old here next place hop (Goes-here g old hops next there goes.1.2) in
      let next_in : In next.node = elim rest.0 [
        | within at ↦ at
        | edge input p n joined at ↦ absurd (omega (arith, storage.below, input))
      ] in
      let over = hop_stays g wired old new In set stay here next place hop next_in in
      elim (hop_from g wired old new In set stay here next place hop in_range next_in) [
        | inl here_in ↦ (within here_in, (unbeaten_stays here.node here.strength here_in goes.0, (next, over, rest.1)))
        | inr input ↦
            let joined : AreJoined (live_graph g old) place next.node here.node = record {
              switch = hop.switch;
              at_place = live_stands g old place hop.switch hop.at_place hop.live;
              joins = Joins-sym hop.switch here.node next.node hop.joins;
            } in (
              edge input place next.node joined next_in,
              (unbeaten_input here.node here.strength in_range input goes.0, (next, over, rest.1)),
            )
      ]

  -- so a root that reaches a node of the set reaches it under the other state
  pub reaches_stays : (root node : ℕ) → Reaches g old root node → In node → StartsAt g old In root × Reaches g new root node
  reaches_stays root node reached inside =
      let goes = Goes-from_Reaches g old root node reached in
      let stays = goes_stays reached.hops (at_root g root) reached.there goes reached.path.in_range (subst In (sym reached.ends) inside) in
      (stays.0, Reaches-from_Goes g new root node reached.hops reached.there reached.path.in_range stays.1 reached.ends)
