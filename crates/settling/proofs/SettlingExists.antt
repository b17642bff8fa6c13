-- Every state of a graph settles.
-- The unit steps: a state has a step, and it is decided whether that changes something, so as many steps as the
-- limit allows can be taken one after the other. The joining steps: each one that changes something leaves
-- fewer storage nodes known, so they end.
use Rattle.std.proofs.Common.{◌≡◌, ℕ, zero, suc, ◌+◌, ◌<◌, ◌↔◌, Bool, true, false, inl, inr, List, [], ◌∷◌, length, refl, ◌∙◌, arith}
use Rattle.std.specs.Bool.{IsTrue}
use Rattle.ternary.specs.declared.tern.Tern.{Tern}
use Rattle.ternary.specs.Tern.{join}
use Rattle.ternary.proofs.TernLemmas.{all_same_or_other}
use Rattle.switch_paths.specs.Switching.{state_at}
use Rattle.switch_paths.specs.Graphs.{GraphData, IsWired, nodes}
use Rattle.switch_paths.specs.Laws.{IsJoin}
use Rattle.switch_paths.proofs.ExistingSteps.{exists}
use Rattle.settling.specs.Settling.{Stepping, IsJoinStep, Joining}
use Rattle.settling.specs.Laws.{EveryStateSettles}
use Rattle.settling.proofs.KnownStates.{known_storage}
use Rattle.settling.proofs.SettlingLemmas.{storage-falls}

-- unit steps while they change something, as many as are left
pub stepping : (g : GraphData) → IsWired g → (left : ℕ) (old : List Tern) → length old ≡ nodes g →
    (count : ℕ) × (new : List Tern) × Stepping g left old count new × (length new ≡ nodes g)
stepping g wired zero old fits = (0, old, (refl, refl), fits)
stepping g wired (suc left) old fits =
    let step = exists g wired old in
    elim (all_same_or_other step.0 old) [
      | inl same ↦ (0, old, (step.0, step.1, inl (same, refl, refl)), fits)
      | inr changed ↦
          let rest = stepping g wired left step.0 step.1.count in
          (rest.0 + 1, rest.1, (step.0, step.1, inr (changed, (rest.0, refl, rest.2))), rest.3)
    ]

-- one node more is joined
join-more : (s t : Tern) (old response joined : List Tern) → IsJoin old response joined → (node : ℕ) →
    node < length (join s t ∷ joined) →
    state_at (join s t ∷ joined) node ≡ join (state_at (s ∷ old) node) (state_at (t ∷ response) node)
join-more s t old response joined joins zero inside = refl
join-more s t old response joined joins (suc node) inside = joins.each node (omega arith)

-- two states of as many nodes have a join
join_exists : (old response : List Tern) → length old ≡ length response → (joined : List Tern) × IsJoin old response joined
join_exists [] [] count = ([], record { left = refl; right = refl; each = λ node inside. absurd (omega arith) })
join_exists [] (t ∷ response) count = absurd (omega arith)
join_exists (s ∷ old) [] count = absurd (omega arith)
join_exists (s ∷ old) (t ∷ response) count =
    let rest = join_exists old response (omega arith) in (
      join s t ∷ rest.0,
      record {
        left = omega (arith, rest.1.left);
        right = omega (arith, rest.1.right);
        each = join-more s t old response rest.0 rest.1;
      },
    )

-- a state has a joining step
join_step_exists : (g : GraphData) → IsWired g → (old : List Tern) → length old ≡ nodes g →
    (new : List Tern) × IsJoinStep g old new
join_step_exists g wired old fits =
    let step = exists g wired old in
    let joined = join_exists old step.0 (omega (arith, fits, step.1.count)) in
    (joined.0, record { response = step.0; step = step.1; joins = joined.1 })

-- joining steps while they change something, where fewer storage nodes than this are known
pub joining : (g : GraphData) → IsWired g → (most : ℕ) (old : List Tern) → length old ≡ nodes g →
    known_storage g old < most →
    (count : ℕ) × (new : List Tern) × Joining g old count new
joining g wired zero old fits fewer = absurd (omega (arith, fewer))
joining g wired (suc most) old fits fewer =
    let step = join_step_exists g wired old fits in
    elim (all_same_or_other step.0 old) [
      | inl same ↦ (0, old, ((rw same at step.1), refl))
      | inr changed ↦
          let falls = storage-falls g wired old step.0 step.1 changed in
          let rest = joining g wired most step.0 (step.1.joins.left ∙ fits) (omega (arith, fewer, falls)) in
          (suc rest.0, rest.1, (step.0, step.1, changed, rest.2))
    ]

-- a mark says whether a count is positive
pub mark_of : (count : ℕ) → (mark : Bool) × (IsTrue mark ↔ (0 < count))
mark_of zero = (false, ((λ yes. absurd cc), (λ positive. absurd (omega (arith, positive)))))
mark_of (suc count) = (true, ((λ yes. omega arith), (λ positive. refl)))

-- every state of a graph settles, under every limit
pub every_state : EveryStateSettles
every_state g wired old fits limit =
    let first = stepping g wired limit old fits in
    let most = known_storage g first.1 + 1 in
    let second = joining g wired most first.1 first.3 (omega arith) in
    let mark = mark_of second.0 in (
      second.1,
      first.0 + second.0,
      mark.0,
      record {
        first = first.0;
        second = second.0;
        mid = first.1;
        stepping = first.2;
        joining = second.2;
        total = refl;
        was_joined = mark.1;
      },
    )
