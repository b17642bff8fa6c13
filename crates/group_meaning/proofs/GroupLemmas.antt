-- A group and its switches: what is linked with a member is a member, and at the ends of the group's switches
-- are members and input nodes.
use Rattle.std.proofs.Common.{◌≡◌, ℕ, ◌<◌, ◌⊎◌, inl, inr, Some, arith}
use Rattle.std.specs.Prelude.{Contains}
use Rattle.std.proofs.lemmas.Bool.{cases_lt}
use Rattle.strength_order.specs.declared.TheConstants.{INPUT_LEVEL}
use Rattle.switch_paths.specs.declared.switching.Switch.{Switch}
use Rattle.switch_paths.specs.Graphs.{GraphData, IsWired, nodes, level_of, place_at, IsStorage}
use Rattle.switch_paths.specs.Path.{Joins}
use Rattle.switch_paths.proofs.PathLemmas.{switch_fits, level_fits}
use Rattle.group_meaning.specs.Groups.{AreJoined, AreLinked, Group, id_of, IsGroup}
use Rattle.group_meaning.proofs.LinkLemmas.{Joins-sym, AreLinked-to, AreLinked-trans, AreLinked-joined}

-- a node of a graph is a storage node or an input node
pub storage_or_input : (g : GraphData) → IsWired g → (node : ℕ) → node < nodes g →
    IsStorage g node ⊎ (level_of g node ≡ INPUT_LEVEL)
storage_or_input g wired node in_range =
    let fits = level_fits g wired node in_range in
    elim (cases_lt (level_of g node) INPUT_LEVEL) [
      | inl below ↦ inl (record { inside = in_range; below = below })
      | inr most ↦ inr (omega (arith, fits.high))
    ]

-- at each end of a switch of a graph is a node of it
pub end_in_range : (g : GraphData) → IsWired g → (place m n : ℕ) (switch : Switch) →
    place_at g.places place ≡ Some switch → Joins switch m n → m < nodes g
end_in_range g wired place m n switch stands joins =
    let fits = switch_fits g wired place switch stands in
    elim joins [ inl ends ↦ rw (← ends.0) fits.a | inr ends ↦ rw (← ends.0) fits.b ]

module _ (g : GraphData) (group : Group) (is_group : IsGroup g group) where
  -- a member is a storage node
  pub member_storage : (node : ℕ) → Contains group.members node → IsStorage g node
  member_storage node member = AreLinked-to g (id_of group) node ((is_group.class node).0 member)

  -- what is linked with a member is a member
  pub linked_member : (m n : ℕ) → Contains group.members m → AreLinked g m n → Contains group.members n
  linked_member m n member linked =
      (is_group.class n).1 (AreLinked-trans g (id_of group) m n ((is_group.class m).0 member) linked)

  -- a storage node that a switch joins with a member is a member
  pub joined_member : (place m n : ℕ) (switch : Switch) → place_at g.places place ≡ Some switch → Joins switch m n →
      Contains group.members m → IsStorage g n → Contains group.members n
  joined_member place m n switch stands joins member storage =
      let joined : AreJoined g place m n = record { switch = switch; at_place = stands; joins = joins } in
      linked_member m n member (AreLinked-joined g place m n (member_storage m member) storage joined)

  -- a switch with a member at an end is one of the group's
  pub switch_of_member : (place m n : ℕ) (switch : Switch) → place_at g.places place ≡ Some switch → Joins switch m n →
      Contains group.members m → Contains group.switches place
  switch_of_member place m n switch stands joins member =
      let touches : Contains group.members switch.a ⊎ Contains group.members switch.b =
      elim joins [ inl ends ↦ inl (rw ends.0 member) | inr ends ↦ inr (rw ends.0 member) ] in
      (is_group.switches place).1 (record { switch = switch; at_place = stands; touches = touches })

  -- a switch of the group has a member at one end or the other
  pub touched_end : (place m n : ℕ) (switch : Switch) → place_at g.places place ≡ Some switch → Joins switch m n →
      Contains group.switches place → Contains group.members m ⊎ Contains group.members n
  touched_end place m n switch stands joins inside =
      let touching = (is_group.switches place).0 inside in
      let same : touching.switch ≡ switch = cc in
      elim joins [
        | inl ends ↦ elim touching.touches [ inl a ↦ inl (rw (same, ends.0) at a) | inr b ↦ inr (rw (same, ends.1) at b) ]
        | inr ends ↦ elim touching.touches [ inl a ↦ inr (rw (same, ends.1) at a) | inr b ↦ inl (rw (same, ends.0) at b) ]
      ]

  -- at each end of a switch of the group is a member or an input node
  pub member_or_input : IsWired g → (place m n : ℕ) (switch : Switch) → place_at g.places place ≡ Some switch →
      Joins switch m n →
      Contains group.switches place → Contains group.members m ⊎ (level_of g m ≡ INPUT_LEVEL)
  member_or_input wired place m n switch stands joins inside =
      elim (touched_end place m n switch stands joins inside) [
        | inl here ↦ inl here
        | inr there ↦
            elim (storage_or_input g wired m (end_in_range g wired place m n switch stands joins)) [
              | inl storage ↦ inl (joined_member place n m switch stands (Joins-sym switch m n joins) there storage)
              | inr input ↦ inr input
            ]
      ]
