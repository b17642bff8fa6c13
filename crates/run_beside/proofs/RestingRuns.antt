-- Replacements beyond the end of a phase. A state at rest stays under both kinds of steps, and one that joining steps leave stays under
-- these; so what a phase ends with is what any further replacements lead to.
use Rattle.std.proofs.Common.{◌≡◌, ℕ, zero, suc, ◌+◌, ◌≤◌, inl, inr, List, refl, sym, subst, arith}
use Rattle.ternary.specs.declared.tern.Tern.{Tern}
use Rattle.switch_paths.specs.Graphs.{GraphData}
use Rattle.switch_paths.specs.Step.{IsStep}
use Rattle.settling.specs.Settling.{Stepping, IsJoinStep, Joining}
use Rattle.settling.proofs.SettlingLemmas.{Joining-steady}
use Rattle.settling.proofs.UniqueSettling.{JoinStep-unique}
use Rattle.run_beside.specs.Replacing.{Replaces, RestingStatesStay, SettledStatesStay}

-- a state at rest is its own joining step
pub rest_stays : RestingStatesStay
rest_stays g state step = (Joining-steady g state step).0

-- a state that joining steps leave stays in any number of them
joined_stays : (g : GraphData) (state : List Tern) → IsJoinStep g state state → (count : ℕ) → Replaces g zero count state state
joined_stays g state step zero = refl
joined_stays g state step (suc count) = (state, step, joined_stays g state step count)

-- a state at rest stays in any replacements
resting_stays : (g : GraphData) (state : List Tern) → IsStep g state state → (left count : ℕ) → Replaces g left count state state
resting_stays g state step zero count = joined_stays g state (rest_stays g state step) count
resting_stays g state step (suc left) zero = refl
resting_stays g state step (suc left) (suc count) = (state, step, resting_stays g state step left count)

-- joining replacements lead to where they end, and stay there
joining_stays : (g : GraphData) (old : List Tern) (second : ℕ) (new : List Tern) → Joining g old second new →
    (count : ℕ) → second ≤ count → Replaces g zero count old new
joining_stays g old zero new joining count most =
    subst (Replaces g zero count old) (sym joining.1) (joined_stays g old joining.0 count)
joining_stays g old (suc second) new joining zero most = absurd (omega (arith, most))
joining_stays g old (suc second) new joining (suc count) most =
    (joining.0, joining.1, joining_stays g joining.0 second new joining.3 count (omega (arith, most)))

-- at a state at rest joining replacements end at once
pub joining_ends : (g : GraphData) (old : List Tern) (second : ℕ) (new : List Tern) → IsStep g old old → Joining g old second new → new ≡ old
joining_ends g old zero new step joining = joining.1
joining_ends g old (suc second) new step joining =
    absurd (joining.2 (JoinStep-unique g old joining.0 old joining.1 (rest_stays g old step)))

-- one plain replacement more in front
one_more : (g : GraphData) (left : ℕ) (old next : List Tern) (first rest second : ℕ) (new : List Tern) → IsStep g old next → first ≡ rest + 1 →
    ((count : ℕ) → rest + second ≤ count → Replaces g left count next new) → (count : ℕ) → first + second ≤ count → Replaces g (suc left) count old new
one_more g left old next first rest second new step one deeper zero most = absurd (omega (arith, most, one))
one_more g left old next first rest second new step one deeper (suc count) most = (next, step, deeper count (omega (arith, most, one)))

-- plain replacements and then joining ones lead to where they end, and stay there
settles_stays : (g : GraphData) (left : ℕ) (old : List Tern) (first : ℕ) (mid : List Tern) (second : ℕ) (new : List Tern) →
    Stepping g left old first mid → Joining g mid second new → (count : ℕ) → first + second ≤ count → Replaces g left count old new
settles_stays g zero old first mid second new stepping joining count most =
    joining_stays g old second new (subst (λ state. Joining g state second new) stepping.1 joining) count
    (omega (arith, most, stepping.0))
settles_stays g (suc left) old first mid second new stepping joining count most =
    elim stepping.2 [
      | inl rests ↦
          let rest : IsStep g old old = subst (IsStep g old) rests.0 stepping.1 in
          let joins = subst (λ state. Joining g state second new) rests.2 joining in
          subst (Replaces g (suc left) count old) (sym (joining_ends g old second new rest joins)) (resting_stays g old rest (suc left) count)
      | inr moves ↦
          one_more g left old stepping.0 first moves.1.0 second new stepping.1 moves.1.1
          (settles_stays g left stepping.0 moves.1.0 mid second new moves.1.2 joining) count most
    ]

pub settled_stays : SettledStatesStay
settled_stays g old limit new steps joined settles count most =
    settles_stays g limit old settles.first settles.mid settles.second new settles.stepping settles.joining count
    (omega (arith, most, settles.total))
