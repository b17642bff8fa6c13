-- Definite paths are as strong in the local graph of a group as in the whole graph.
-- A path over the local graph is one over the group's switches. The other way round, a definite path from
-- elsewhere enters the group over one of its switches from an input node, whose own empty path is stronger than
-- all that came before. So nothing but the last part of the path counts, and that runs over the group's
-- switches alone.
use Rattle.std.proofs.Common.{◌≡◌, ℕ, ◌<◌, ◌≤◌, true, inl, inr, List, [], ◌∷◌, length, map, refl, ap, arith}
use Rattle.std.specs.Prelude.{slice_index, Contains}
use Rattle.std.proofs.lemmas.Bool.{cases_lt}
use Rattle.ternary.specs.declared.tern.Tern.{Tern}
use Rattle.switch_paths.specs.Graphs.{GraphData, IsWired, level_of}
use Rattle.switch_paths.specs.Path.{Stand, Joins, Hop, Leads, at_root, LivePath}
use Rattle.switch_paths.proofs.PathLemmas.{switch_fits, Leads-definite}
use Rattle.switch_paths.proofs.StrongestPaths.{surely, IsBest}
use Rattle.group_meaning.specs.Groups.{Group, IsGroup}
use Rattle.group_meaning.proofs.LinkLemmas.{Joins-sym}
use Rattle.group_meaning.proofs.GroupLemmas.{switch_of_member}
use Rattle.group_text.specs.Texts.{local_nodes, local_of, local_graph, local_state}
use Rattle.group_text.proofs.LocalNodes.{local_of-inside, local_of-stands, local_of-at, locals_apart, end_local, first-member}
use Rattle.group_text.proofs.LocalEdges.{nodes_local, level_outside}
use Rattle.group_text.proofs.AlikeNodes.{IsAlike, alike_end}
use Rattle.group_text.proofs.LocalHops.{whole_stand, local_stand, whole_root, hop_local, hop_whole, alike_before}

-- a stand of a path over the whole graph is no stronger than this table of the local graph has it for the local
-- node of its node
abbrev IsWithin : GraphData → Group → (ℕ → ℕ) → Stand → Type 0
IsWithin g group local_best here =
    (local : ℕ) → IsAlike g group local → slice_index (local_nodes g group) local ≡ here.node → here.strength ≤ local_best local

module _ (g : GraphData) (wired : IsWired g) (group : Group) (is_group : IsGroup g group) (state : List Tern) where
  abbrev locals : List ℕ
  locals = local_nodes g group

  -- hops over the local graph, one after the other, are hops over switches of the group
  leads_whole : (hops : List ℕ) (here there : Stand) → Leads (local_graph g group) (local_state locals state) here hops there →
      Leads g state (whole_stand locals here) (map (slice_index group.switches) hops) (whole_stand locals there)
  leads_whole [] here there leads = ap (whole_stand locals) leads
  leads_whole (place ∷ hops) here there leads =
      let over = hop_whole g wired group is_group state here leads.0 place leads.1 in
      (whole_stand locals leads.0, over, leads_whole hops leads.0 there leads.2)

  -- a path over the local graph that leads to a node with the level of what it stands for starts at one
  alike_root : (hops : List ℕ) (root : ℕ) (there : Stand) → Leads (local_graph g group) (local_state locals state) (at_root (local_graph g group) root) hops there →
      IsAlike g group there.node → IsAlike g group root
  alike_root [] root there leads alike = rw (ap (λ (here : Stand). here.node) leads) alike
  alike_root (place ∷ hops) root there leads alike =
      alike_before g wired group is_group state (at_root (local_graph g group) root) leads.0 place leads.1

  -- so it is a live path of the whole graph
  path_whole : (root : ℕ) (hops : List ℕ) (there : Stand) → LivePath (local_graph g group) (local_state locals state) root hops there →
      IsAlike g group there.node →
      LivePath g state (slice_index locals root) (map (slice_index group.switches) hops) (whole_stand locals there)
  path_whole root hops there path alike =
      let start = alike_root hops root there path.leads alike in
      let leads = leads_whole hops (at_root (local_graph g group) root) there path.leads in
      record { in_range = start.in_range; leads = rw (whole_root g group root start) at leads }

  module _ (best local_best : ℕ → ℕ) (is_best : IsBest g state best)
      (is_local_best : IsBest (local_graph g group) (local_state locals state) local_best) where
    -- the strongest definite path to a local node is no stronger than that to the node that it stands for
    pub local_best-most : (local : ℕ) → IsAlike g group local → local_best local ≤ best (slice_index locals local)
    local_best-most local alike =
        let found = is_local_best.found local (rw (nodes_local g group is_group) alike.inside) in
        let there : Stand = surely local (local_best local) in
        let path = path_whole found.root found.hops there found.path alike in
        is_best.most (slice_index locals found.root) (map (slice_index group.switches) found.hops)
        (whole_stand locals there) path refl

    -- it is no weaker than the empty path of the local node
    local_best-level : (local : ℕ) → local < length locals → level_of (local_graph g group) local ≤ local_best local
    local_best-level local inside =
        let empty : LivePath (local_graph g group) (local_state locals state) local [] (at_root (local_graph g group) local) =
        record { in_range = rw (nodes_local g group is_group) inside; leads = refl } in
        is_local_best.most local [] (at_root (local_graph g group) local) empty refl

    -- a hop onto a member comes over a switch of the group
    within_member : (here next : Stand) (place local : ℕ) → Hop g state here place next → next.definite ≡ true →
        IsWithin g group local_best here → local < length group.members → IsAlike g group local →
        slice_index locals local ≡ next.node →
        next.strength ≤ local_best local
    within_member here next place local hop definite within first alike is =
        let member : Contains group.members next.node = rw is at (first-member g group is_group local first) in
        let back = Joins-sym hop.switch here.node next.node hop.joins in
        let inside = switch_of_member g group is_group place next.node here.node hop.switch hop.at_place back member in
        let there = end_local g group place here.node next.node hop.switch inside hop.at_place hop.joins in
        let before = local_of locals here.node in
        let stands : slice_index locals before ≡ here.node = local_of-stands locals here.node there in
        let joins : Joins hop.switch (slice_index locals before) next.node = rw stands hop.joins in
        let near = alike_end g wired group is_group place next.node before hop.switch inside hop.at_place joins
        (local_of-inside locals here.node there) in
        let over = hop_local g wired group is_group state here next place inside hop in
        let after = is_local_best.spread (local_stand locals here) (local_stand locals next) over.0 over.1 definite
        (within before near stands) in
        let same : local_of locals next.node ≡ local =
        rw is at (local_of-at locals (locals_apart g group) local alike.inside) in
        rw same at after

    -- and a hop onto an input node is weaker than that node's own empty path
    within_next : (here next : Stand) (place : ℕ) → Hop g state here place next → next.definite ≡ true →
        IsWithin g group local_best here → IsWithin g group local_best next
    within_next here next place hop definite within local alike is =
        elim (cases_lt local (length group.members)) [
          | inl first ↦ within_member here next place local hop definite within first alike is
          | inr past ↦
              let fits = switch_fits g wired place hop.switch hop.at_place in
              let input = level_outside g group is_group local past alike.inside in
              omega (arith, hop.strength, fits.high, input, local_best-level local alike.inside)
        ]

    -- so a definite path stays within the table
    within_along : (hops : List ℕ) (here there : Stand) → Leads g state here hops there → there.definite ≡ true →
        IsWithin g group local_best here → IsWithin g group local_best there
    within_along [] here there leads definite within = rw (← leads) within
    within_along (place ∷ hops) here there leads definite within =
        let next_definite = Leads-definite g state hops leads.0 there leads.2 definite in
        within_along hops leads.0 there leads.2 definite (within_next here leads.0 place leads.1 next_definite within)

    -- and the strongest definite path to a node is no stronger than that to its local node
    pub local_best-least : (local : ℕ) → IsAlike g group local → best (slice_index locals local) ≤ local_best local
    local_best-least local alike =
        let node = slice_index locals local in
        let found = is_best.found node alike.in_range in
        let start : IsWithin g group local_best (at_root g found.root) =
        λ other near is. omega (arith, near.level, ap (level_of g) is, local_best-level other near.inside) in
        within_along found.hops (at_root g found.root) (surely node (best node)) found.path.leads refl start local alike refl
