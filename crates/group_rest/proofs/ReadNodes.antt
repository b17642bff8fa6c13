-- A local node that stands for no member stands for a node that the group reads: it is at a terminal of one of the group's switches, as
-- its gate, or as an end that is an input node.
use Rattle.std.proofs.Common.{◌≡◌, ℕ, zero, suc, ◌<◌, ◌≤◌, inl, inr, ◌⊎◌, List, [], ◌∷◌, ◌++◌, length, Option, Some, None, refl, arith}
use Rattle.std.specs.Prelude.{Contains, slice_index}
use Rattle.std.specs.List.{flat_map}
use Rattle.std.proofs.lemmas.List.Elements.{Contains-get_or, Contains-append_cases}
use Rattle.switch_paths.specs.declared.switching.Switch.{Switch}
use Rattle.switch_paths.specs.Graphs.{GraphData, IsWired, place_at}
use Rattle.group_meaning.specs.Groups.{Group, IsGroup}
use Rattle.group_meaning.proofs.GroupLemmas.{member_or_input}
use Rattle.group_text.specs.Texts.{terminals_of, local_nodes}
use Rattle.group_text.proofs.LocalNodes.{Contains-from_firsts, member-first}
use Rattle.group_rest.specs.Rest.{Reads}

-- what stands in the whole stands in some piece
pub piece_of : (f : ℕ → List ℕ) (xs : List ℕ) (y : ℕ) → Contains (flat_map f xs) y → (x : ℕ) × Contains xs x × Contains (f x) y
piece_of f [] y (k, inside, is) = absurd (omega arith)
piece_of f (x ∷ xs) y there =
    elim (Contains-append_cases (f x) (flat_map f xs) y there) [
      | inl here ↦ (x, (0, omega arith, refl), here)
      | inr later ↦
          let found = piece_of f xs y later in
          let k = found.1.0 in
          (found.0, (suc k, omega (arith, found.1.1), found.1.2), found.2)
    ]

-- a node at a terminal is at the gate or at one of the ends of a switch
at_terminal : (stands : Option Switch) (node : ℕ) → Contains (terminals_of stands) node →
    (switch : Switch) × (stands ≡ Some switch) × ((switch.gate ≡ node) ⊎ ((switch.a ≡ node) ⊎ (switch.b ≡ node)))
at_terminal None node (k, inside, is) = absurd (omega arith)
at_terminal (Some switch) node (zero, inside, is) = (switch, refl, inl is)
at_terminal (Some switch) node (suc zero, inside, is) = (switch, refl, inr (inl is))
at_terminal (Some switch) node (suc (suc zero), inside, is) = (switch, refl, inr (inr is))
at_terminal (Some switch) node (suc (suc (suc k)), inside, is) = absurd (omega arith)

module _ (g : GraphData) (wired : IsWired g) (group : Group) (is_group : IsGroup g group) where
  -- at an end of a switch of the group stands a member or a node that the group reads
  end_read : (place m n : ℕ) (switch : Switch) → Contains group.switches place → place_at g.places place ≡ Some switch →
      ((switch.a ≡ m) × (switch.b ≡ n)) ⊎ ((switch.b ≡ m) × (switch.a ≡ n)) → Contains group.members m ⊎ Reads g group m
  end_read place m n switch inside stands joins =
      elim (member_or_input g group is_group wired place m n switch stands joins inside) [
        | inl member ↦ inl member
        | inr input ↦
            let end : (switch.a ≡ m) ⊎ (switch.b ≡ m) = elim joins [ inl first ↦ inl first.0 | inr second ↦ inr second.0 ] in
            inr (record { place = place; inside = inside; switch = switch; at_place = stands; reads = inr (end, input) })
      ]

  -- at a terminal of a place of the group stands a member or a node that the group reads
  terminal_read : (place node : ℕ) → Contains group.switches place → Contains (terminals_of (place_at g.places place)) node →
      Contains group.members node ⊎ Reads g group node
  terminal_read place node inside terminal =
      let (switch, stands, at) = at_terminal (place_at g.places place) node terminal in
      elim at [
        | inl gate ↦ inr (record { place = place; inside = inside; switch = switch; at_place = stands; reads = inl gate })
        | inr end ↦
            elim end [
              | inl first ↦ end_read place node switch.b switch inside stands (inl (first, refl))
              | inr second ↦ end_read place node switch.a switch inside stands (inr (second, refl))
            ]
      ]

  -- a local node behind the members stands for a node that the group reads
  pub outside_read : (local : ℕ) → length group.members ≤ local → local < length (local_nodes g group) →
      Reads g group (slice_index (local_nodes g group) local)
  outside_read local past inside =
      let locals = local_nodes g group in
      let node = slice_index locals local in
      let pieces : ℕ → List ℕ = λ place. terminals_of (place_at g.places place) in
      let no_member : ¬ Contains group.members node = λ member. absurd (omega (arith, member-first g group is_group local inside member)) in
      let there = Contains-from_firsts (group.members ++ flat_map pieces group.switches) node (Contains-get_or locals local 0 inside) in
      elim (Contains-append_cases group.members (flat_map pieces group.switches) node there) [
        | inl member ↦ absurd (no_member member)
        | inr terminal ↦
            let found = piece_of pieces group.switches node terminal in
            elim (terminal_read found.0 node found.1 found.2) [ inl member ↦ absurd (no_member member) | inr read ↦ read ]
      ]
