-- Responses are local: a root reaches a member over the local graph exactly if the node that it stands for
-- reaches it in the whole graph.
-- Blocking compares strengths with those of definite paths, which are the same in both graphs. An unblocked
-- path of the whole graph that ends at a member stands at members from its first hop on, so it runs over
-- switches of the group alone.
use Rattle.std.proofs.Common.{◌≡◌, ℕ, ◌<◌, Bool, List, [], ◌∷◌, length, map, refl, sym, ap, ◌∙◌, arith}
use Rattle.std.specs.Prelude.{slice_index, Contains, ◌↔◌}
use Rattle.std.proofs.lemmas.List.Elements.{Contains-get_or}
use Rattle.ternary.specs.declared.tern.Tern.{Tern}
use Rattle.ternary.specs.Tern.{may_one, may_zero}
use Rattle.switch_paths.specs.Switching.{state_at}
use Rattle.switch_paths.specs.Graphs.{GraphData, IsWired, nodes, level_of, IsStorage}
use Rattle.switch_paths.specs.Path.{Stand, Joins, Hop, at_root, IsBeaten, Reaches}
use Rattle.switch_paths.specs.Step.{Responds}
use Rattle.switch_paths.proofs.PathLemmas.{same_stand, Goes, Goes-here, Goes-from_Reaches, Reaches-from_Goes}
use Rattle.switch_paths.proofs.StrongestPaths.{IsBest, best_table, unbeaten-from_best, best-from_unbeaten}
use Rattle.group_meaning.specs.Groups.{Group, IsGroup}
use Rattle.group_meaning.proofs.LinkLemmas.{Joins-sym}
use Rattle.group_meaning.proofs.StoragePaths.{hop_to_storage}
use Rattle.group_meaning.proofs.GroupLemmas.{switch_of_member}
use Rattle.group_text.specs.Texts.{local_nodes, local_of, local_graph, local_state}
use Rattle.group_text.specs.Laws.{ResponsesAreLocal}
use Rattle.group_text.proofs.LocalNodes.{local_of-inside, local_of-stands, local_of-at, locals_apart, member_local, member_at, member-first, members_within, end_local}
use Rattle.group_text.proofs.LocalEdges.{state_local, nodes_local}
use Rattle.group_text.proofs.WellFormedTexts.{local_wired}
use Rattle.group_text.proofs.AlikeNodes.{IsAlike, alike_member, alike_end, alike_storage}
use Rattle.group_text.proofs.LocalHops.{whole_stand, local_stand, whole_root, hop_local, hop_whole, alike_before, alike_after}
use Rattle.group_text.proofs.LocalPaths.{local_best-most, local_best-least}

-- an unblocked path of the whole graph, from this stand to that, has a copy in the local graph, and its first
-- node the level of its local node
pub record IsCopied (g : GraphData) (group : Group) (state : List Tern) (here there : Stand) : Type 0 where
  pub near : Contains (local_nodes g group) here.node
  pub alike : IsAlike g group (local_of (local_nodes g group) here.node)
  pub hops : List ℕ
  pub goes : Goes (local_graph g group) (local_state (local_nodes g group) state) (local_stand (local_nodes g group) here) hops
      (local_stand (local_nodes g group) there)

-- the local node that stands for a root reaches the k-th member over the local graph, with this strength
pub record IsReached (g : GraphData) (group : Group) (state : List Tern) (root k strength : ℕ) : Type 0 where
  pub local : ℕ
  pub inside : local < length (local_nodes g group)
  pub stands : slice_index (local_nodes g group) local ≡ root
  pub reaches : Reaches (local_graph g group) (local_state (local_nodes g group) state) local k
  pub strong : reaches.there.strength ≡ strength

-- a fact that holds exactly if a second one does, which holds exactly if a third one does
iff_trans : {P Q R : Type 0} → P ↔ Q → Q ↔ R → P ↔ R
iff_trans one two = (λ p. two.0 (one.0 p), λ r. one.1 (two.1 r))

-- and the other way round
iff_sym : {P Q : Type 0} → P ↔ Q → Q ↔ P
iff_sym both = (both.1, both.0)

module _ (g : GraphData) (wired : IsWired g) (group : Group) (is_group : IsGroup g group) (state : List Tern) where
  -- the local nodes, and the states of the local graph's nodes
  abbrev locals : List ℕ
  locals = local_nodes g group

  abbrev local_states : List Tern
  local_states = local_state (local_nodes g group) state

  -- an unblocked path over the local graph that leads to a member starts at a node with the level of what it stands for
  pub alike_start : (hops : List ℕ) (here there : Stand) → Goes (local_graph g group) local_states here hops there →
      there.node < length group.members →
      IsAlike g group here.node
  alike_start [] here there goes first =
      alike_member g wired group is_group here.node (rw (← (ap (λ (x : Stand). x.node) goes.1)) at first)
  alike_start (place ∷ hops) here there goes first = alike_before g wired group is_group state here goes.1.0 place goes.1.1

  -- a hop of the whole graph onto a member goes over a switch of the group
  switch_onto : (here next : Stand) (place : ℕ) → Hop g state here place next → Contains group.members next.node →
      Contains group.switches place
  switch_onto here next place hop member =
      let back = Joins-sym hop.switch here.node next.node hop.joins in
      switch_of_member g group is_group place next.node here.node hop.switch hop.at_place back member

  -- and starts at a node with the level of its local node
  alike_onto : (here next : Stand) (place : ℕ) → Hop g state here place next → Contains group.switches place →
      Contains locals here.node →
      IsAlike g group (local_of locals here.node)
  alike_onto here next place hop inside near =
      let local = local_of locals here.node in
      let joins : Joins hop.switch (slice_index locals local) next.node =
      rw (local_of-stands locals here.node near) hop.joins in
      alike_end g wired group is_group place next.node local hop.switch inside hop.at_place joins
      (local_of-inside locals here.node near)

  -- a storage node with the level of its local node is a member
  storage_member : (node : ℕ) → Contains locals node → IsAlike g group (local_of locals node) → IsStorage g node →
      Contains group.members node
  storage_member node near alike storage =
      let stands : slice_index locals (local_of locals node) ≡ node = local_of-stands locals node near in
      rw stands at (alike_storage g wired group is_group (local_of locals node) alike (rw stands storage))

  module _ (best local_best : ℕ → ℕ) (is_best : IsBest g state best)
      (is_local_best : IsBest (local_graph g group) local_states local_best) where
    -- what nothing beats in the local graph, nothing beats in the whole one
    unbeaten_whole : (local strength : ℕ) → IsAlike g group local → (¬ IsBeaten (local_graph g group) local_states local strength) →
        ¬ IsBeaten g state (slice_index locals local) strength
    unbeaten_whole local strength alike unbeaten =
        let inside : local < nodes (local_graph g group) = rw (nodes_local g group is_group) alike.inside in
        let most = best-from_unbeaten (local_graph g group) local_states local_best is_local_best local strength inside unbeaten in
        let least = local_best-least g wired group is_group state best local_best is_best is_local_best local alike in
        unbeaten-from_best g state best is_best (slice_index locals local) strength (omega (arith, most, least))

    -- and the other way round
    unbeaten_local : (node strength : ℕ) → Contains locals node → IsAlike g group (local_of locals node) →
        (¬ IsBeaten g state node strength) →
        ¬ IsBeaten (local_graph g group) local_states (local_of locals node) strength
    unbeaten_local node strength near alike unbeaten =
        let stands : slice_index locals (local_of locals node) ≡ node = local_of-stands locals node near in
        let in_range : node < nodes g = rw stands at alike.in_range in
        let most = best-from_unbeaten g state best is_best node strength in_range unbeaten in
        let least = local_best-most g wired group is_group state best local_best is_best is_local_best
        (local_of locals node) alike in
        unbeaten-from_best (local_graph g group) local_states local_best is_local_best (local_of locals node) strength
        (omega (arith, most, least, ap best stands))

    -- so an unblocked path over the local graph is one over switches of the group
    pub goes_whole : (hops : List ℕ) (here there : Stand) → Goes (local_graph g group) local_states here hops there →
        IsAlike g group here.node →
        Goes g state (whole_stand locals here) (map (slice_index group.switches) hops) (whole_stand locals there)
    goes_whole [] here there goes alike = (unbeaten_whole here.node here.strength alike goes.0, ap (whole_stand locals) goes.1)
    goes_whole (place ∷ hops) here there goes alike =
        let next = goes.1.0 in
        let over = hop_whole g wired group is_group state here next place goes.1.1 in
        let after = alike_after g wired group is_group state here next place goes.1.1 in (
          unbeaten_whole here.node here.strength alike goes.0,
          (whole_stand locals next, over, goes_whole hops next there goes.1.2 after),
        )

    -- and an unblocked path of the whole graph that leads to a member has its copy in the local graph
    pub goes_local : (hops : List ℕ) (here there : Stand) → Goes g state here hops there → Contains group.members there.node →
        IsCopied g group state here there
    goes_local [] here there goes member =
        let local = local_of locals here.node in
        let here_member : Contains group.members here.node = rw (ap (λ (x : Stand). x.node) goes.1) member in
        let near = member_local g group here.node here_member in
        let stands : slice_index locals local ≡ here.node = local_of-stands locals here.node near in
        let first = member-first g group is_group local (local_of-inside locals here.node near) (rw stands here_member) in
        let alike = alike_member g wired group is_group local first in
        record {
          near = near;
          alike = alike;
          hops = [];
          goes = (unbeaten_local here.node here.strength near alike goes.0, ap (local_stand locals) goes.1);
        }
    goes_local (place ∷ hops) here there goes member =
        let next = goes.1.0 in
        let hop = goes.1.1 in
        let rest = goes_local hops next there goes.1.2 member in
        let storage = hop_to_storage g wired state here next place hop (Goes-here g state hops next there goes.1.2) in
        let inside = switch_onto here next place hop (storage_member next.node rest.near rest.alike storage) in
        let near = end_local g group place here.node next.node hop.switch inside hop.at_place hop.joins in
        let alike = alike_onto here next place hop inside near in
        let over = hop_local g wired group is_group state here next place inside hop in
        record {
          near = near;
          alike = alike;
          hops = over.0 ∷ rest.hops;
          goes = (unbeaten_local here.node here.strength near alike goes.0, (local_stand locals next, over.1, rest.goes));
        }

    -- what reaches a member in the local graph stands for what reaches it in the whole one
    reaches_whole : (root k : ℕ) → k < length group.members → Reaches (local_graph g group) local_states root k →
        Reaches g state (slice_index locals root) (slice_index group.members k)
    reaches_whole root k first reached =
        let goes = Goes-from_Reaches (local_graph g group) local_states root k reached in
        let alike = alike_start reached.hops (at_root (local_graph g group) root) reached.there goes (rw reached.ends first) in
        let whole = goes_whole reached.hops (at_root (local_graph g group) root) reached.there goes alike in
        let ends = ap (slice_index locals) reached.ends ∙ member_at g group is_group k first in
        Reaches-from_Goes g state (slice_index locals root) (slice_index group.members k)
        (map (slice_index group.switches) reached.hops)
        (whole_stand locals reached.there) alike.in_range (rw (whole_root g group root alike) at whole) ends

    -- and what reaches a member in the whole graph has a local node that reaches it in the local one, as strongly
    pub reaches_local : (root k : ℕ) → k < length group.members → (reached : Reaches g state root (slice_index group.members k)) →
        IsReached g group state root k reached.there.strength
    reaches_local root k first reached =
        let member : Contains group.members reached.there.node = rw reached.ends (Contains-get_or group.members k 0 first) in
        let goes = Goes-from_Reaches g state root (slice_index group.members k) reached in
        let copied = goes_local reached.hops (at_root g root) reached.there goes member in
        let local = local_of locals root in
        let stands : slice_index locals local ≡ root = local_of-stands locals root copied.near in
        let start : local_stand locals (at_root g root) ≡ at_root (local_graph g group) local =
        same_stand (local_stand locals (at_root g root)) (at_root (local_graph g group) local) refl
        (sym (copied.alike.level ∙ ap (level_of g) stands)) refl in
        let inside : k < length locals = omega (arith, members_within g group is_group) in
        let ends : local_of locals reached.there.node ≡ k =
        ap (local_of locals) (reached.ends ∙ sym (member_at g group is_group k first)) ∙ local_of-at locals
        (locals_apart g group) k inside in
        let in_range : local < nodes (local_graph g group) = rw (nodes_local g group is_group) copied.alike.inside in
        record {
          local = local;
          inside = copied.alike.inside;
          stands = stands;
          reaches = Reaches-from_Goes (local_graph g group) local_states local k copied.hops (local_stand locals reached.there) in_range
              (rw start at copied.goes) ends;
          strong = refl {a = reached.there.strength};
        }

    -- so a member responds in the one as in the other, under each rail
    responds : (rail : Tern → Bool) (k : ℕ) → k < length group.members →
        Responds rail (local_graph g group) local_states k ↔ Responds rail g state (slice_index group.members k)
    responds rail k first = (
      λ local.
          let inside : local.0 < length locals = rw (nodes_local g group is_group) at local.1.path.in_range in
          let same = ap rail (state_local locals state local.0 inside) in
          (slice_index locals local.0, reaches_whole local.0 k first local.1, sym same ∙ local.2),
      λ whole.
          let reached = reaches_local whole.0 k first whole.1 in
          let same = ap rail (state_local locals state reached.local reached.inside ∙ ap (state_at state) reached.stands) in
          (reached.local, reached.reaches, same ∙ whole.2),
    )

-- the steady state of a member in its group's local graph is its steady state in the whole graph
pub responses : ResponsesAreLocal
responses g group state k answer wired is_group first =
    let text_graph = local_graph g group in
    let local_states = local_state (local_nodes g group) state in
    let best = best_table g wired state in
    let local_best = best_table text_graph (local_wired g wired group is_group) local_states in
    let alike : (rail : Tern → Bool) → Responds rail text_graph local_states k ↔ Responds rail g state
    (slice_index group.members k) =
    λ rail. responds g wired group is_group state best.0 local_best.0 best.1 local_best.1 rail k first in (
      λ response. record { one = iff_trans response.one (alike may_one); zero = iff_trans response.zero (alike may_zero) },
      λ response. record {
        one = iff_trans response.one (iff_sym (alike may_one));
        zero = iff_trans response.zero (iff_sym (alike may_zero));
      },
    )
