-- Each local node of a group stands for a node of the graph.
use Rattle.std.proofs.Common.{ℕ, ◌<◌, List, [], ◌∷◌, All}
use Rattle.std.specs.Prelude.{Contains}
use Rattle.std.specs.List.{flat_map}
use Rattle.std.proofs.lemmas.List.Elements.{All-nil, All-cons, All-head, All-tail, All-append, All-weaker, All-contains, All-contains_itself}
use Rattle.switch_paths.specs.Graphs.{GraphData, IsWired, nodes, place_at}
use Rattle.switch_paths.proofs.PathLemmas.{switch_fits}
use Rattle.group_meaning.specs.Groups.{Group, IsGroup}
use Rattle.group_text.specs.Texts.{firsts, terminals_of, local_nodes}
use Rattle.group_text.proofs.GroupLemmas.{members_inside}
use Rattle.group_text.proofs.LocalNodes.{Contains-from_firsts}

-- what holds of all pieces holds of the whole
All-flat_map : {X Y : Type 0} (P : Y → Type 0) (f : X → List Y) (xs : List X) → All (λ x. All P (f x)) xs → All P (flat_map f xs)
All-flat_map P f [] each = All-nil P
All-flat_map P f (x ∷ xs) each =
    All-append P (f x) (flat_map f xs) (All-head (λ x. All P (f x)) x xs each)
    (All-flat_map P f xs (All-tail (λ x. All P (f x)) x xs each))

-- and of what stands in a list once
All-firsts : (P : ℕ → Type 0) (xs : List ℕ) → All P xs → All P (firsts xs)
All-firsts P xs each =
    All-weaker (Contains (firsts xs)) P (λ x there. All-contains P xs x each (Contains-from_firsts xs x there)) (firsts xs)
    (All-contains_itself (firsts xs))

module _ (g : GraphData) (wired : IsWired g) (group : Group) (is_group : IsGroup g group) where
  -- at the terminals of a switch of the group are nodes of the graph
  terminals_inside : (place : ℕ) → Contains group.switches place → All (λ node. node < nodes g) (terminals_of (place_at g.places place))
  terminals_inside place inside =
      let touching = (is_group.switches place).0 inside in
      let fits = switch_fits g wired place touching.switch touching.at_place in
      let P : ℕ → Type 0 = λ node. node < nodes g in
      let b = All-cons P touching.switch.b [] fits.b (All-nil P) in
      let a = All-cons P touching.switch.a (touching.switch.b ∷ []) fits.a b in
      rw touching.at_place (All-cons P touching.switch.gate (touching.switch.a ∷ touching.switch.b ∷ []) fits.gate a)

  -- so each local node stands for a node of the graph
  pub locals_inside : All (λ node. node < nodes g) (local_nodes g group)
  locals_inside =
      let P : ℕ → Type 0 = λ node. node < nodes g in
      let pieces : ℕ → List ℕ = λ place. terminals_of (place_at g.places place) in
      let each = All-weaker (Contains group.switches) (λ place. All P (pieces place)) terminals_inside group.switches
      (All-contains_itself group.switches) in
      let terminals = All-flat_map P pieces group.switches each in
      All-firsts P _ (All-append P group.members (flat_map pieces group.switches) (members_inside g group is_group) terminals)
