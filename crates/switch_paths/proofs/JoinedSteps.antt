-- The step of a join is the join of the steps, while the switches stay as they are.
-- Under the join every switch has the state that it has under both, so the same paths are unblocked under all
-- three. A root sets a rail under the join if it sets it under one of the two, so a rail of the steady state
-- is set if one of the two steps sets it.
use Rattle.std.proofs.Common.{◌≡◌, ℕ, ◌<◌, ◌↔◌, Bool, true, ◌||◌, ◌⊎◌, inl, inr, List, length, refl, sym, ap, ◌∙◌, arith}
use Rattle.std.proofs.lemmas.Bool.{or_cases, or_left, or_right}
use Rattle.ternary.specs.declared.tern.Tern.{Tern}
use Rattle.ternary.specs.declared.tern.Tern.TheVariants.{Zero, One, Unk}
use Rattle.ternary.specs.Tern.{may_one, may_zero, join}
use Rattle.ternary.proofs.TernLemmas.{may_one-join, may_zero-join}
use Rattle.switch_paths.specs.declared.switching.SwitchKind.{SwitchKind}
use Rattle.switch_paths.specs.declared.switching.SwitchKind.TheVariants.{NChan, PChan, Always}
use Rattle.switch_paths.specs.Switching.{state_at, state_by}
use Rattle.switch_paths.specs.Graphs.{GraphData, IsWired, nodes}
use Rattle.switch_paths.specs.Step.{Responds}
use Rattle.switch_paths.specs.Laws.{SameSwitches, IsJoin, StepsJoin}
use Rattle.switch_paths.proofs.PathLemmas.{switch_fits}
use Rattle.switch_paths.proofs.SameSwitchesLemmas.{SameSwitches-sym, Reaches-same}

-- a switch whose state two gates agree on has it under their join
state_by-join : (kind : SwitchKind) (s t : Tern) → state_by kind s ≡ state_by kind t →
    state_by kind s ≡ state_by kind (join s t)
state_by-join kind Zero Zero same = refl
state_by-join kind One One same = refl
state_by-join kind Unk Zero same = refl
state_by-join kind Unk One same = refl
state_by-join kind Unk Unk same = refl
state_by-join kind Zero Unk same = same
state_by-join kind One Unk same = same
state_by-join NChan Zero One same = absurd cc
state_by-join NChan One Zero same = absurd cc
state_by-join PChan Zero One same = absurd cc
state_by-join PChan One Zero same = absurd cc
state_by-join Always Zero One same = refl
state_by-join Always One Zero same = refl

-- under a join of two states that agree on the switches, the switches are as under the first
join_same : (g : GraphData) → IsWired g → (a b joined : List Tern) → length a ≡ nodes g → SameSwitches g a b →
    IsJoin a b joined →
    SameSwitches g a joined
join_same g wired a b joined count same is_join place switch stands =
    let fits = switch_fits g wired place switch stands in
    let inside : switch.gate < length joined = omega (arith, fits.gate, is_join.left) in
    let one = state_at a switch.gate in
    let other = state_at b switch.gate in
    rw (is_join.each switch.gate inside) (state_by-join switch.kind one other (same place switch stands))

-- two states, their join, and a rail that a join has if one of the two has it
module _ (g : GraphData) (a b joined : List Tern) (count : length joined ≡ nodes g) (is_join : IsJoin a b joined)
    (same_a : SameSwitches g a joined) (same_b : SameSwitches g b joined)
    (rail : Tern → Bool) (rail-join : (s t : Tern) → rail (join s t) ≡ (rail s || rail t)) where
  -- a root sets the rail under the join if it does under one of the two
  joined_sets : (root : ℕ) → root < nodes g → rail (state_at joined root) ≡ (rail (state_at a root) || rail (state_at b root))
  joined_sets root in_range =
      let inside : root < length joined = omega arith in
      ap rail (is_join.each root inside) ∙ rail-join (state_at a root) (state_at b root)

  -- what responds under the first responds under the join
  responds-first : (node : ℕ) → Responds rail g a node → Responds rail g joined node
  responds-first node way =
      let root = way.0 in
      let set = or_left (rail (state_at a root)) (rail (state_at b root)) way.2 in
      (root, Reaches-same g a joined same_a root node way.1, joined_sets root way.1.path.in_range ∙ set)

  -- and what responds under the second does
  responds-second : (node : ℕ) → Responds rail g b node → Responds rail g joined node
  responds-second node way =
      let root = way.0 in
      let set = or_right (rail (state_at a root)) (rail (state_at b root)) way.2 in
      (root, Reaches-same g b joined same_b root node way.1, joined_sets root way.1.path.in_range ∙ set)

  -- what responds under the join responds under one of the two
  responds-either : (node : ℕ) → Responds rail g joined node → Responds rail g a node ⊎ Responds rail g b node
  responds-either node way =
      let root = way.0 in
      let set = sym (joined_sets root way.1.path.in_range) ∙ way.2 in
      elim (or_cases (rail (state_at a root)) (rail (state_at b root)) set) [
        | inl first ↦ inl (root, Reaches-same g joined a (SameSwitches-sym g a joined same_a) root node way.1, first)
        | inr second ↦ inr (root, Reaches-same g joined b (SameSwitches-sym g b joined same_b) root node way.1, second)
      ]

  -- so the join of two states that have the rail where the node responds has it where the node responds under the join
  join_responds : (node : ℕ) (s t : Tern) →
      ((rail s ≡ true) ↔ Responds rail g a node) → ((rail t ≡ true) ↔ Responds rail g b node) →
      (rail (join s t) ≡ true) ↔ Responds rail g joined node
  join_responds node s t one two = (
    (λ set. elim (or_cases (rail s) (rail t) (rw rail-join at set)) [
      | inl first ↦ responds-first node (one.0 first)
      | inr second ↦ responds-second node (two.0 second)
    ]),
    (λ way. rail-join s t ∙ elim (responds-either node way) [
      | inl first ↦ or_left (rail s) (rail t) (one.1 first)
      | inr second ↦ or_right (rail s) (rail t) (two.1 second)
    ]),
  )

-- the step is additive while the switches stay as they are
pub steps_join : StepsJoin
steps_join g wired a b joined next_a next_b next count_a count_b same is_join step_a step_b next_is_join =
    let count : length joined ≡ nodes g = is_join.left ∙ count_a in
    let same_a : SameSwitches g a joined = join_same g wired a b joined count_a same is_join in
    let same_b : SameSwitches g b joined = λ place switch stands. sym (same place switch stands) ∙ same_a place switch stands in
    record {
      count = next_is_join.left ∙ step_a.count;
      each = λ node in_range.
          let s = state_at next_a node in
          let t = state_at next_b node in
          let inside : node < length next = omega (arith, next_is_join.left, step_a.count) in
          let one = step_a.each node in_range in
          let two = step_b.each node in_range in
          rw (next_is_join.each node inside) (record {
            one = join_responds g a b joined count is_join same_a same_b may_one may_one-join node s t one.one two.one;
            zero = join_responds g a b joined count is_join same_a same_b may_zero may_zero-join node s t one.zero two.zero;
          });
    }
