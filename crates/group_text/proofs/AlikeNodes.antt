-- Local nodes that have the level of the node that they stand for: the members, and the input nodes at the ends
-- of the group's switches.
-- A storage node outside the group can only be a gate. It is an input node of the local graph, and no switch
-- there ends at it.
use Rattle.std.proofs.Common.{◌≡◌, ℕ, ◌<◌, inl, inr, length, Some, sym, ap, ◌∙◌, arith}
use Rattle.std.specs.Prelude.{slice_index, Contains}
use Rattle.std.proofs.lemmas.Bool.{cases_lt}
use Rattle.strength_order.specs.declared.TheConstants.{INPUT_LEVEL}
use Rattle.switch_paths.specs.declared.switching.Switch.{Switch}
use Rattle.switch_paths.specs.Graphs.{GraphData, IsWired, nodes, level_of, place_at, IsStorage}
use Rattle.switch_paths.specs.Path.{Joins}
use Rattle.group_meaning.specs.Groups.{Group, IsGroup}
use Rattle.group_meaning.proofs.GroupLemmas.{end_in_range, member_storage, member_or_input}
use Rattle.group_text.specs.Texts.{local_nodes, local_of, local_switch, local_graph}
use Rattle.group_text.proofs.LocalNodes.{local_of-stands, a_local, b_local, members_within, first-member, member-first}
use Rattle.group_text.proofs.WellFormedTexts.{local_wired}
use Rattle.group_text.proofs.LocalEdges.{copy_of, nodes_local, level_member, level_outside}

-- the local node stands for a node with the level that it has
pub record IsAlike (g : GraphData) (group : Group) (local : ℕ) : Type 0 where
  pub inside : local < length (local_nodes g group)
  pub in_range : slice_index (local_nodes g group) local < nodes g
  pub level : level_of (local_graph g group) local ≡ level_of g (slice_index (local_nodes g group) local)

module _ (g : GraphData) (group : Group) where
  -- the ends of the copy of a switch are the local nodes of its ends
  pub Joins-local : (m n : ℕ) (switch : Switch) → Joins switch m n →
      Joins (local_switch (local_nodes g group) switch) (local_of (local_nodes g group) m) (local_of (local_nodes g group) n)
  Joins-local m n switch joins =
      let local : ℕ → ℕ = local_of (local_nodes g group) in
      elim joins [ inl ends ↦ inl (ap local ends.0, ap local ends.1) | inr ends ↦ inr (ap local ends.0, ap local ends.1) ]

  -- and the ends of the switch are what those of its copy stand for
  pub Joins-whole : (place m n : ℕ) (switch : Switch) → Contains group.switches place → place_at g.places place ≡ Some switch →
      Joins (local_switch (local_nodes g group) switch) m n →
      Joins switch (slice_index (local_nodes g group) m) (slice_index (local_nodes g group) n)
  Joins-whole place m n switch inside stands joins =
      let locals = local_nodes g group in
      let whole : ℕ → ℕ = slice_index locals in
      let a = local_of-stands locals switch.a (a_local g group place switch inside stands) in
      let b = local_of-stands locals switch.b (b_local g group place switch inside stands) in
      elim joins [
        | inl ends ↦ inl (sym a ∙ ap whole ends.0, sym b ∙ ap whole ends.1)
        | inr ends ↦ inr (sym b ∙ ap whole ends.0, sym a ∙ ap whole ends.1)
      ]

module _ (g : GraphData) (wired : IsWired g) (group : Group) (is_group : IsGroup g group) where
  -- a local node that stands for a member has its level
  pub alike_member : (local : ℕ) → local < length group.members → IsAlike g group local
  alike_member local first =
      record {
        inside = omega (arith, members_within g group is_group);
        in_range = (member_storage g group is_group (slice_index (local_nodes g group) local)
            (first-member g group is_group local first)).inside;
        level = level_member g group is_group local first;
      }

  -- and so has one that stands for an input node
  alike_input : (local : ℕ) → local < length (local_nodes g group) → slice_index (local_nodes g group) local < nodes g →
      level_of g (slice_index (local_nodes g group) local) ≡ INPUT_LEVEL → IsAlike g group local
  alike_input local inside in_range input =
      elim (cases_lt local (length group.members)) [
        | inl first ↦ alike_member local first
        | inr past ↦ record {
          inside = inside;
          in_range = in_range;
          level =
              level_outside g group is_group local past inside ∙ sym input;
        }
      ]

  -- so one that stands for an end of a switch of the group has its level
  pub alike_end : (place n local : ℕ) (switch : Switch) → Contains group.switches place →
      place_at g.places place ≡ Some switch →
      Joins switch (slice_index (local_nodes g group) local) n → local < length (local_nodes g group) → IsAlike g group local
  alike_end place n local switch inside stands joins local_inside =
      let node = slice_index (local_nodes g group) local in
      elim (member_or_input g group is_group wired place node n switch stands joins inside) [
        | inl member ↦ alike_member local (member-first g group is_group local local_inside member)
        | inr input ↦ alike_input local local_inside (end_in_range g wired place node n switch stands joins) input
      ]

  -- and each end of a switch of the local graph is one of those
  pub alike_joined : (local_place m n : ℕ) (copy : Switch) → place_at (local_graph g group).places local_place ≡ Some copy →
      Joins copy m n → IsAlike g group m
  alike_joined local_place m n copy stands joins =
      let place = slice_index group.switches local_place in
      let of = copy_of g group is_group local_place copy stands in
      let whole = Joins-whole g group place m n of.switch of.inside of.at_place (rw of.same at joins) in
      let in_range = end_in_range (local_graph g group)
      (local_wired g wired group is_group) local_place m n copy stands joins in
      let inside : m < length (local_nodes g group) = rw (nodes_local g group is_group) at in_range in
      alike_end place (slice_index (local_nodes g group) n) m of.switch of.inside of.at_place whole inside

  -- a storage node whose local node has its level is a member: outside the group it would be an input node there
  pub alike_storage : (local : ℕ) → IsAlike g group local → IsStorage g (slice_index (local_nodes g group) local) →
      Contains group.members (slice_index (local_nodes g group) local)
  alike_storage local alike storage =
      elim (cases_lt local (length group.members)) [
        | inl first ↦ first-member g group is_group local first
        | inr past ↦ let outside = level_outside g group is_group local past alike.inside in
            absurd (omega (arith, outside, alike.level, storage.below))
      ]
