-- The text of a group is well formed.
use Rattle.std.proofs.Common.{◌≡◌, ℕ, ◌-◌, ◌<◌, length, map, Option, Some, sym, ◌∙◌, arith}
use Rattle.std.specs.Prelude.{slice_index, Contains, All, replicate, option_map}
use Rattle.std.proofs.lemmas.List.{length-map}
use Rattle.std.proofs.lemmas.List.Elements.{All-weaker, All-contains_itself, All-map, All-append, All-replicate, Contains-get_or}
use Rattle.strength_order.specs.declared.TheConstants.{INPUT_LEVEL}
use Rattle.strength_order.specs.Levels.{IsLevel}
use Rattle.switch_paths.specs.declared.switching.Switch.{Switch}
use Rattle.switch_paths.specs.Graphs.{GraphData, IsWired, Fits, FitsPlace, level_of, place_at, IsStorage}
use Rattle.switch_paths.proofs.PathLemmas.{switch_fits, level_fits}
use Rattle.group_meaning.specs.Groups.{Group, IsGroup}
use Rattle.group_meaning.proofs.GroupLemmas.{member_storage}
use Rattle.group_text.specs.Texts.{constant_of, local_nodes, local_switch, local_graph}
use Rattle.group_text.specs.Laws.{TextsAreWellFormed}
use Rattle.group_text.proofs.LocalNodes.{local_of-inside, gate_local, a_local, b_local, members_within, member_at}
use Rattle.group_text.proofs.LocalEdges.{nodes_local, level_member, level_outside}

module _ (g : GraphData) (wired : IsWired g) (group : Group) (is_group : IsGroup g group) where
  -- the level of a local node is a level
  levels_fit : All IsLevel (local_graph g group).levels
  levels_fit =
      let outside = length (local_nodes g group) - length group.members in
      let members = All-weaker (Contains group.members) (λ node. IsLevel (level_of g node))
      (λ node member. level_fits g wired node (member_storage g group is_group node member).inside) group.members
      (All-contains_itself group.members) in
      All-append IsLevel (map (level_of g) group.members) (replicate outside INPUT_LEVEL)
      (All-map IsLevel (level_of g) group.members members)
      (All-replicate IsLevel outside INPUT_LEVEL (record { low = omega arith; high = omega arith }))

  -- a switch of the group fits the local graph, between the local nodes of its terminals
  copy_fits : (place : ℕ) (switch : Switch) → Contains group.switches place → place_at g.places place ≡ Some switch →
      Fits (length (local_nodes g group)) (local_switch (local_nodes g group) switch)
  copy_fits place switch inside stands =
      let locals = local_nodes g group in
      let fits = switch_fits g wired place switch stands in
      record {
        low = fits.low;
        high = fits.high;
        gate = local_of-inside locals switch.gate (gate_local g group place switch inside stands);
        a = local_of-inside locals switch.a (a_local g group place switch inside stands);
        b = local_of-inside locals switch.b (b_local g group place switch inside stands);
      }

  -- so each place of the local graph fits it
  places_fit : All (FitsPlace (length (local_graph g group).levels)) (local_graph g group).places
  places_fit =
      let locals = local_nodes g group in
      let copied : ℕ → Option Switch = λ place. option_map (local_switch locals) (place_at g.places place) in
      let each = All-weaker (Contains group.switches) (λ place. FitsPlace (length locals) (copied place))
      (λ place inside.
      let touching = (is_group.switches place).0 inside in
      rw touching.at_place (copy_fits place touching.switch inside touching.at_place))
      group.switches (All-contains_itself group.switches) in
      rw (nodes_local g group is_group) (All-map (FitsPlace (length locals)) copied group.switches each)

  -- the local graph is a graph
  pub local_wired : IsWired (local_graph g group)
  local_wired = record { levels = levels_fit; places = places_fit }

  -- the node that a first local node stands for is a member, so it is a storage node too
  first_storage : (local : ℕ) → local < length group.members → IsStorage (local_graph g group) local
  first_storage local first =
      let member = Contains-get_or group.members local 0 first in
      let storage = member_storage g group is_group (slice_index group.members local) member in
      record {
        inside = rw (nodes_local g group is_group) (omega (arith, members_within g group is_group));
        below = rw (level_member g group is_group local first, member_at g group is_group local first) storage.below;
      }

-- the text of a group is well formed
pub well_formed : TextsAreWellFormed
well_formed g group wired is_group =
    let count = nodes_local g group is_group in
    record {
      wired = local_wired g wired group is_group;
      members = rw count (members_within g group is_group);
      storage = first_storage g wired group is_group;
      outside = λ node past inside. level_outside g group is_group node past (rw count at inside);
      constants = length-map (local_nodes g group) constant_of ∙ sym count;
    }
