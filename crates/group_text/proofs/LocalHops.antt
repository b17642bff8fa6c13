-- Hops over the local graph of a group are hops over the group's switches in the whole graph, one to one.
use Rattle.std.proofs.Common.{◌≡◌, ℕ, min, List, refl, sym, ap, ◌∙◌}
use Rattle.std.specs.Prelude.{slice_index, Contains, ◌&&◌}
use Rattle.ternary.specs.declared.tern.Tern.{Tern}
use Rattle.switch_paths.specs.declared.switching.Switch.{Switch}
use Rattle.switch_paths.specs.declared.switching.SwitchState.{SwitchState}
use Rattle.switch_paths.specs.Switching.{is_closed, is_live, switch_state_at}
use Rattle.switch_paths.specs.Graphs.{GraphData, IsWired}
use Rattle.switch_paths.specs.Path.{Stand, Joins, Hop, at_root}
use Rattle.switch_paths.proofs.PathLemmas.{same_stand}
use Rattle.group_meaning.specs.Groups.{Group, IsGroup}
use Rattle.group_meaning.proofs.LinkLemmas.{Joins-sym}
use Rattle.group_text.specs.Texts.{local_nodes, local_of, local_switch, local_graph, local_state}
use Rattle.group_text.proofs.LocalNodes.{gate_local}
use Rattle.group_text.proofs.LocalEdges.{copy_of, switch_local, switch_state_local}
use Rattle.group_text.proofs.AlikeNodes.{IsAlike, Joins-local, Joins-whole, alike_joined}

-- where a path over the local graph stands in the whole graph
abbrev pub whole_stand : List ℕ → Stand → Stand
whole_stand locals here = record { node = slice_index locals here.node; strength = here.strength; definite = here.definite }

-- where a path over the whole graph stands in the local graph
abbrev pub local_stand : List ℕ → Stand → Stand
local_stand locals here = record { node = local_of locals here.node; strength = here.strength; definite = here.definite }

-- a path that starts at a node with the level of its local node starts so in the local graph too
pub whole_root : (g : GraphData) (group : Group) (root : ℕ) → IsAlike g group root →
    whole_stand (local_nodes g group) (at_root (local_graph g group) root) ≡ at_root g (slice_index (local_nodes g group) root)
whole_root g group root alike =
    let locals = local_nodes g group in
    same_stand (whole_stand locals (at_root (local_graph g group) root))
    (at_root g (slice_index locals root)) refl alike.level refl

module _ (g : GraphData) (wired : IsWired g) (group : Group) (is_group : IsGroup g group) (state : List Tern) where
  -- a hop over a switch of the group is one over its copy
  pub hop_local : (here there : Stand) (place : ℕ) → Contains group.switches place → Hop g state here place there →
      (local_place : ℕ)
      × Hop (local_graph g group) (local_state (local_nodes g group) state)
      (local_stand (local_nodes g group) here) local_place (local_stand (local_nodes g group) there)
  hop_local here there place inside hop =
      let locals = local_nodes g group in
      let copied = switch_local g group place hop.switch inside hop.at_place in
      let same = switch_state_local locals state hop.switch (gate_local g group place hop.switch inside hop.at_place) in (
        copied.0,
        record {
          switch = local_switch locals hop.switch;
          at_place = copied.1;
          joins = Joins-local g group here.node there.node hop.switch hop.joins;
          live = ap is_live same ∙ hop.live;
          strength = hop.strength;
          definite = hop.definite ∙ ap (λ closed. here.definite && is_closed closed) (sym same);
        },
      )

  -- a hop over the local graph is one over a switch of the group
  pub hop_whole : (here there : Stand) (local_place : ℕ) →
      Hop (local_graph g group) (local_state (local_nodes g group) state) here local_place there →
      Hop g state (whole_stand (local_nodes g group) here) (slice_index group.switches local_place)
      (whole_stand (local_nodes g group) there)
  hop_whole here there local_place hop =
      let locals = local_nodes g group in
      let place = slice_index group.switches local_place in
      let copy = copy_of g group is_group local_place hop.switch hop.at_place in
      let same = switch_state_local locals state copy.switch (gate_local g group place copy.switch copy.inside copy.at_place) in
      let joins : Joins (local_switch locals copy.switch) here.node there.node = rw copy.same at hop.joins in
      let state_of : Switch → SwitchState = switch_state_at (local_state locals state) in
      let moved : state_of hop.switch ≡ switch_state_at state copy.switch = ap state_of copy.same ∙ same in
      record {
        switch = copy.switch;
        at_place = copy.at_place;
        joins = Joins-whole g group place here.node there.node copy.switch copy.inside copy.at_place joins;
        live = ap is_live (sym moved) ∙ hop.live;
        strength = hop.strength ∙ ap (λ (switch : Switch). min here.strength switch.level) copy.same;
        definite = hop.definite ∙ ap (λ closed. here.definite && is_closed closed) moved;
      }

  -- a hop over the local graph starts at a node with the level of what it stands for
  pub alike_before : (here there : Stand) (local_place : ℕ) →
      Hop (local_graph g group) (local_state (local_nodes g group) state) here local_place there → IsAlike g group here.node
  alike_before here there local_place hop =
      alike_joined g wired group is_group local_place here.node there.node hop.switch hop.at_place hop.joins

  -- and leads to one
  pub alike_after : (here there : Stand) (local_place : ℕ) →
      Hop (local_graph g group) (local_state (local_nodes g group) state) here local_place there → IsAlike g group there.node
  alike_after here there local_place hop =
      let back = Joins-sym hop.switch here.node there.node hop.joins in
      alike_joined g wired group is_group local_place there.node here.node hop.switch hop.at_place back
