-- The local graph of a group: its levels are those of the nodes that the local nodes stand for, but that
-- outside nodes are input nodes,
-- and its places hold the group's switches, one to one, between the local nodes. Under the local state each has
-- the state that it has.
use Rattle.std.proofs.Common.{◌≡◌, ℕ, ◌-◌, ◌<◌, ◌≤◌, inl, inr, List, length, map, Option, Some, None, sym, ap, ◌∙◌, arith, length-append}
use Rattle.std.specs.Prelude.{slice_index, Contains, replicate, option_map}
use Rattle.std.proofs.lemmas.Bool.{cases_lt}
use Rattle.std.proofs.lemmas.List.{length-map, length-replicate, get_or_append_left, get_or-append_right, get_or-replicate, get_or-map, get_or_default, get_or_past}
use Rattle.std.proofs.lemmas.List.Elements.{Contains-get_or}
use Rattle.ternary.specs.declared.tern.Tern.{Tern}
use Rattle.ternary.specs.declared.tern.Tern.TheVariants.{Zero}
use Rattle.strength_order.specs.declared.TheConstants.{INPUT_LEVEL}
use Rattle.switch_paths.specs.declared.switching.Switch.{Switch}
use Rattle.switch_paths.specs.Switching.{state_at, state_by, switch_state_at}
use Rattle.switch_paths.specs.Graphs.{GraphData, nodes, level_of, place_at}
use Rattle.group_meaning.specs.Groups.{Group, IsGroup}
use Rattle.group_text.specs.Texts.{local_nodes, local_of, local_switch, local_graph, local_state}
use Rattle.group_text.proofs.LocalNodes.{local_of-inside, local_of-stands, members_within, member_at}

-- the switch that a place of the local graph holds is a switch of the group, between the local nodes
pub record IsCopy (g : GraphData) (group : Group) (local_place : ℕ) (copy : Switch) : Type 0 where
  pub switch : Switch
  pub inside : Contains group.switches (slice_index group.switches local_place)
  pub at_place : place_at g.places (slice_index group.switches local_place) ≡ Some switch
  pub same : copy ≡ local_switch (local_nodes g group) switch

-- the state of a local node is that of the node that it stands for
pub state_local : (locals : List ℕ) (state : List Tern) (local : ℕ) → local < length locals →
    state_at (local_state locals state) local ≡ state_at state (slice_index locals local)
state_local locals state local inside = get_or-map (state_at state) locals local 0 Zero inside

-- so a switch whose gate has a local node has the same state there
pub switch_state_local : (locals : List ℕ) (state : List Tern) (switch : Switch) → Contains locals switch.gate →
    switch_state_at (local_state locals state) (local_switch locals switch) ≡ switch_state_at state switch
switch_state_local locals state switch gate =
    let at_gate : state_at (local_state locals state) (local_of locals switch.gate) ≡ state_at state switch.gate =
    state_local locals state (local_of locals switch.gate) (local_of-inside locals switch.gate gate)
    ∙ ap (state_at state) (local_of-stands locals switch.gate gate) in
    ap (state_by switch.kind) at_gate

module _ (g : GraphData) (group : Group) where
  -- the local graph has a place for each switch of the group
  place_local : (local_place : ℕ) → local_place < length group.switches →
      place_at (local_graph g group).places local_place
      ≡ option_map (local_switch (local_nodes g group)) (place_at g.places (slice_index group.switches local_place))
  place_local local_place inside =
      get_or-map (λ place. option_map (local_switch (local_nodes g group)) (place_at g.places place)) group.switches
      local_place 0 None inside

  -- and no other
  no_place : (local_place : ℕ) → length group.switches ≤ local_place → place_at (local_graph g group).places local_place ≡ None
  no_place local_place past =
      let copied : ℕ → Option Switch = λ place. option_map (local_switch (local_nodes g group)) (place_at g.places place) in
      get_or_past (map copied group.switches) local_place None (omega (arith, length-map group.switches copied))

  -- at some place it holds each switch of the group
  pub switch_local : (place : ℕ) (switch : Switch) → Contains group.switches place → place_at g.places place ≡ Some switch →
      (local_place : ℕ) × (place_at (local_graph g group).places local_place ≡ Some (local_switch (local_nodes g group) switch))
  switch_local place switch inside stands =
      let copied : Option Switch → Option Switch = option_map (local_switch (local_nodes g group)) in
      let same : slice_index group.switches inside.0 ≡ place =
      get_or_default group.switches inside.0 0 place inside.1 ∙ inside.2 in
      (inside.0, place_local inside.0 inside.1 ∙ ap copied (ap (place_at g.places) same ∙ stands))

module _ (g : GraphData) (group : Group) (is_group : IsGroup g group) where
  -- what a place of the local graph holds is a switch of the group
  pub copy_of : (local_place : ℕ) (copy : Switch) → place_at (local_graph g group).places local_place ≡ Some copy →
      IsCopy g group local_place copy
  copy_of local_place copy stands =
      elim (cases_lt local_place (length group.switches)) [
        | inl below ↦
            let place = slice_index group.switches local_place in
            let inside = Contains-get_or group.switches local_place 0 below in
            let touching = (is_group.switches place).0 inside in
            let copied : place_at (local_graph g group).places local_place ≡ Some
            (local_switch (local_nodes g group) touching.switch) =
            place_local g group local_place below ∙ ap (option_map (local_switch (local_nodes g group))) touching.at_place in
            record { switch = touching.switch; inside = inside; at_place = touching.at_place; same = cc }
        | inr past ↦ let none = no_place g group local_place past in absurd cc
      ]

  -- the local graph has the local nodes
  pub nodes_local : nodes (local_graph g group) ≡ length (local_nodes g group)
  nodes_local =
      let members = map (level_of g) group.members in
      let outside = length (local_nodes g group) - length group.members in
      omega (
        arith,
        length-append members (replicate outside INPUT_LEVEL),
        length-map group.members (level_of g),
        length-replicate outside INPUT_LEVEL,
        members_within g group is_group,
      )

  -- a member keeps its level
  pub level_member : (local : ℕ) → local < length group.members →
      level_of (local_graph g group) local ≡ level_of g (slice_index (local_nodes g group) local)
  level_member local inside =
      let members = map (level_of g) group.members in
      let outside = length (local_nodes g group) - length group.members in
      get_or_append_left members (replicate outside INPUT_LEVEL) 0 local (omega (arith, length-map group.members (level_of g)))
      ∙ (get_or-map (level_of g) group.members local 0 0 inside ∙ ap (level_of g)
      (sym (member_at g group is_group local inside)))

  -- an outside node is an input node
  pub level_outside : (local : ℕ) → length group.members ≤ local → local < length (local_nodes g group) →
      level_of (local_graph g group) local ≡ INPUT_LEVEL
  level_outside local past inside =
      let members = map (level_of g) group.members in
      let outside = length (local_nodes g group) - length group.members in
      get_or-append_right members (replicate outside INPUT_LEVEL) (length group.members) local 0
      (length-map group.members (level_of g)) past
      ∙ get_or-replicate outside (local - length group.members) INPUT_LEVEL 0 (omega arith)
