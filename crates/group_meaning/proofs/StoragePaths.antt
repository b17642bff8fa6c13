-- Unblocked paths run over storage nodes alone, but for their roots.
-- A path that has gone over a switch is at most as strong as a switch can be, and an input node beats that with
-- its own empty path. So where an unblocked path goes on, it stands at storage nodes, and the switches between
-- any two of its stands link them.
use Rattle.std.proofs.Common.{◌≡◌, ℕ, ◌<◌, ◌≤◌, inl, inr, List, [], ◌∷◌, ◌++◌, length, take, drop, refl, sym, ap, ◌∙◌, arith, append_assoc}
use Rattle.std.proofs.lemmas.Bool.{cases_lt}
use Rattle.std.proofs.lemmas.List.{take_at, take-take, take-append-drop}
use Rattle.ternary.specs.declared.tern.Tern.{Tern}
use Rattle.strength_order.specs.declared.TheConstants.{INPUT_LEVEL}
use Rattle.switch_paths.specs.Graphs.{GraphData, IsWired, nodes, level_of, IsStorage}
use Rattle.switch_paths.specs.Path.{Stand, Hop, at_root, IsBeaten, IsBlocked}
use Rattle.switch_paths.proofs.PathLemmas.{switch_fits, level_fits, Hop-in_range, IsBeaten-by_level, Goes, Goes-here, Goes-back, Goes-from_unblocked}
use Rattle.group_meaning.specs.Groups.{LinksOver, AreLinked}
use Rattle.group_meaning.specs.Laws.{StandsAt, UnblockedPathsRunOverStorage, UnblockedPathsStayInOneGroup, InputNodesAreReachedFromThemselves}
use Rattle.group_meaning.proofs.LinkLemmas.{AreLinked-sym}

-- a node whose level isn't that of an input node is a storage node
pub IsStorage-from_level : (g : GraphData) → IsWired g → (node : ℕ) → node < nodes g →
    (¬ (level_of g node ≡ INPUT_LEVEL)) → IsStorage g node
IsStorage-from_level g wired node in_range other =
    let fits = level_fits g wired node in_range in
    record { inside = in_range; below = omega (arith, fits.high) }

module _ (g : GraphData) (wired : IsWired g) (state : List Tern) where
  -- a hop that nothing beats where it leads to leads to a storage node
  pub hop_to_storage : (here there : Stand) (place : ℕ) → Hop g state here place there →
      (¬ IsBeaten g state there.node there.strength) → IsStorage g there.node
  hop_to_storage here there place hop unbeaten =
      let in_range = Hop-in_range wired hop in
      let fits = switch_fits g wired place hop.switch hop.at_place in
      let weak : there.strength < INPUT_LEVEL = omega (arith, hop.strength, fits.high) in
      IsStorage-from_level g wired there.node in_range
      (λ input. unbeaten (IsBeaten-by_level g state there.node there.strength in_range (omega arith)))

  -- the switches that an unblocked path goes over from a storage node link it with where the path leads
  pub links_along : (hops : List ℕ) (here there : Stand) → Goes g state here hops there → IsStorage g here.node →
      LinksOver g hops here.node there.node
  links_along [] here there goes storage = (storage, ap (λ (x : Stand). x.node) goes.1)
  links_along (place ∷ hops) here there goes storage =
      let next = goes.1.0 in
      let hop = goes.1.1 in
      let after = hop_to_storage here next place hop (Goes-here g state hops next there goes.1.2) in (
        storage,
        (
          next.node,
          record { switch = hop.switch; at_place = hop.at_place; joins = hop.joins },
          links_along hops next there goes.1.2 after,
        ),
      )

  -- an unblocked path that has gone over a switch stands at a storage node
  pub last_storage : (hops : List ℕ) (here there : Stand) → Goes g state here hops there → 0 < length hops →
      IsStorage g there.node
  last_storage [] here there goes more = absurd (omega arith)
  last_storage (place ∷ []) here there goes more =
      let next = goes.1.0 in
      rw (← goes.1.2.1) (hop_to_storage here next place goes.1.1 goes.1.2.0)
  last_storage (place ∷ (other ∷ hops)) here there goes more =
      last_storage (other ∷ hops) goes.1.0 there goes.1.2 (omega arith)

  -- each front of an unblocked path is unblocked
  front_unblocked : (root : ℕ) (front back : List ℕ) → (¬ IsBlocked g state root (front ++ back)) →
      ¬ IsBlocked g state root front
  front_unblocked root front back unblocked blocked = unblocked (record {
    front = blocked.front;
    back = blocked.back ++ back;
    splits = ap (λ hops. hops ++ back) blocked.splits ∙ append_assoc blocked.front blocked.back back;
    there = blocked.there;
    prefix = blocked.prefix;
    beaten = blocked.beaten;
  })

  -- so where an unblocked path stands, it went unblocked
  pub Goes-to_stand : (root : ℕ) (hops : List ℕ) → (¬ IsBlocked g state root hops) → (count : ℕ) (there : Stand) →
      (stands : StandsAt g state root hops count there) → Goes g state (at_root g root) stands.front there
  Goes-to_stand root hops unblocked count there stands =
      Goes-from_unblocked g state root stands.front there stands.prefix
      (front_unblocked root stands.front stands.back (rw stands.splits at unblocked))

-- of two fronts of one list the longer one begins with the other
front_of_front : (hops one rest two last : List ℕ) → hops ≡ one ++ rest → hops ≡ two ++ last → length one ≤ length two →
    (between : List ℕ) × (two ≡ one ++ between)
front_of_front hops one rest two last first second most =
    let whole : take (length two) hops ≡ two = rw second (take_at two last (length two) refl) in
    let part : take (length one) hops ≡ one = rw first (take_at one rest (length one) refl) in
    let shorter : take (length one) two ≡ one = ap (take (length one)) (sym whole) ∙
    (take-take (length one) (length two) hops most ∙ part) in
    (drop (length one) two, sym (take-append-drop (length one) two) ∙ ap (λ front. front ++ drop (length one) two) shorter)

-- on an unblocked path every node after the root is a storage node
pub over_storage : UnblockedPathsRunOverStorage
over_storage g wired state root hops unblocked count there more stands =
    let goes = Goes-to_stand g wired state root hops unblocked count there stands in
    last_storage g wired state stands.front (at_root g root) there goes (omega (arith, stands.counted))

-- what stands earlier on an unblocked path, at a storage node, is linked with what stands later
linked_onwards : (g : GraphData) → IsWired g → (state : List Tern) (root : ℕ) (hops : List ℕ) →
    (¬ IsBlocked g state root hops) →
    (first second : ℕ) (m n : Stand) → StandsAt g state root hops first m → StandsAt g state root hops second n →
    first ≤ second →
    IsStorage g m.node → AreLinked g m.node n.node
linked_onwards g wired state root hops unblocked first second m n one two order storage =
    let start = at_root g root in
    let goes = Goes-to_stand g wired state root hops unblocked second n two in
    let split = front_of_front hops one.front one.back two.front two.back one.splits two.splits
    (omega (arith, one.counted, two.counted)) in
    let whole : Goes g state start (one.front ++ split.0) n = rw split.1 at goes in
    let rest = Goes-back g state one.front split.0 start m n whole one.prefix.leads in
    record { places = split.0; links = links_along g wired state split.0 m n rest storage }

-- all storage nodes on an unblocked path are linked with each other
pub in_one_group : UnblockedPathsStayInOneGroup
in_one_group g wired state root hops unblocked first second m n one two from to =
    elim (cases_lt first second) [
      | inl before ↦ linked_onwards g wired state root hops unblocked first second m n one two (omega arith) from
      | inr after ↦
          AreLinked-sym g n.node m.node (linked_onwards g wired state root hops unblocked second first n m two one after to)
    ]

-- the only unblocked path to an input node is its own empty one
pub from_itself : InputNodesAreReachedFromThemselves
from_itself g wired state root [] there path unblocked input = refl
from_itself g wired state root (place ∷ hops) there path unblocked input =
    let goes = Goes-from_unblocked g state root (place ∷ hops) there path unblocked in
    let storage = last_storage g wired state (place ∷ hops) (at_root g root) there goes (omega arith) in
    absurd (omega (arith, storage.below))
