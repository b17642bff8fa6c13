-- How many of the marked nodes are 0 or 1: a joining step that changes something leaves fewer.
use Rattle.std.proofs.Common.{◌≡◌, ◌≢◌, ℕ, suc, ◌+◌, ◌<◌, ◌≤◌, Bool, true, false, ◌⊎◌, inl, inr, cond, List, [], ◌∷◌, length, refl, arith, count_by, slice_index}
use Rattle.std.proofs.lemmas.List.Sums.{sum_by-cons}
use Rattle.ternary.specs.declared.tern.Tern.{Tern}
use Rattle.ternary.specs.declared.tern.Tern.TheVariants.{Zero, One, Unk}
use Rattle.ternary.proofs.TernLemmas.{same_or_other}
use Rattle.switch_paths.specs.Switching.{state_at}
use Rattle.switch_paths.specs.Graphs.{GraphData, level_of, is_storage_level}

-- a marked node that is 0 or 1 counts
abbrev pub weight : Bool → Tern → ℕ
weight false state = 0
weight true Zero = 1
weight true One = 1
weight true Unk = 0

-- how many marked nodes are 0 or 1
abbrev pub known : (ℕ → Bool) → List Tern → ℕ
known marked [] = 0
known marked (state ∷ states) = weight (marked 0) state + known (λ node. marked (suc node)) states

-- how many storage nodes are 0 or 1
abbrev pub known_storage : GraphData → List Tern → ℕ
known_storage g = known (λ node. is_storage_level (level_of g node))

-- a node keeps its state, or it is marked and becomes X
abbrev pub Fades : Bool → Tern → Tern → Type 0
Fades marked old new = (new ≡ old) ⊎ ((marked ≡ true) × (new ≡ Unk))

-- a node that fades keeps its state, or counted and doesn't any more
Fades-weight : (marked : Bool) (old new : Tern) → Fades marked old new → (new ≡ old) ⊎ (weight marked new < weight marked old)
Fades-weight marked old new (inl same) = inl same
Fades-weight false old new (inr fades) = absurd (cc (fades.0))
Fades-weight true Zero new (inr fades) = inr (rw fades.1 (omega arith))
Fades-weight true One new (inr fades) = inr (rw fades.1 (omega arith))
Fades-weight true Unk new (inr fades) = inl fades.1

-- one node and the rest
both : (marked : ℕ → Bool) (s t : Tern) (old new : List Tern) →
    ((t ≡ s) ⊎ (weight (marked 0) t < weight (marked 0) s)) →
    ((new ≡ old) ⊎ (known (λ node. marked (suc node)) new < known (λ node. marked (suc node)) old)) →
    ((t ∷ new) ≡ (s ∷ old)) ⊎ (known marked (t ∷ new) < known marked (s ∷ old))
both marked s t old new (inl one) (inl rest) = inl cc
both marked s t old new (inl one) (inr rest) = inr (rw one (omega (arith, rest)))
both marked s t old new (inr one) (inl rest) = inr (rw rest (omega (arith, one)))
both marked s t old new (inr one) (inr rest) = inr (omega (arith, one, rest))

-- where every node fades, either nothing changed or fewer count
pub known-fades : (marked : ℕ → Bool) (old new : List Tern) → length new ≡ length old →
    ((node : ℕ) → node < length old → Fades (marked node) (state_at old node) (state_at new node)) →
    (new ≡ old) ⊎ (known marked new < known marked old)
known-fades marked [] [] count each = inl refl
known-fades marked [] (t ∷ new) count each = absurd (omega arith)
known-fades marked (s ∷ old) [] count each = absurd (omega arith)
known-fades marked (s ∷ old) (t ∷ new) count each =
    both marked s t old new (Fades-weight (marked 0) s t (each 0 (omega arith)))
    (known-fades (λ node. marked (suc node)) old new (omega arith) (λ node inside. each (suc node) (omega arith)))

-- so if something changed, fewer count
pub known-falls : (marked : ℕ → Bool) (old new : List Tern) → length new ≡ length old →
    ((node : ℕ) → node < length old → Fades (marked node) (state_at old node) (state_at new node)) →
    new ≢ old → known marked new < known marked old
known-falls marked old new count each changed =
    elim (known-fades marked old new count each) [ inl same ↦ absurd (changed same) | inr fewer ↦ fewer ]

-- a node counts once at most
weight_low : (marked : Bool) (state : Tern) → weight marked state ≤ 1
weight_low false state = omega arith
weight_low true Zero = omega arith
weight_low true One = omega arith
weight_low true Unk = omega arith

-- no more count than there are
pub known-all : (marked : ℕ → Bool) (states : List Tern) → known marked states ≤ length states
known-all marked [] = omega arith
known-all marked (state ∷ states) =
    omega (arith, weight_low (marked 0) state, known-all (λ node. marked (suc node)) states)

-- and not at all if it isn't marked
weight-cond : (marked : Bool) (state : Tern) → weight marked state ≤ cond marked 1 0
weight-cond false state = omega arith
weight-cond true Zero = omega arith
weight-cond true One = omega arith
weight-cond true Unk = omega arith

-- no more count than items pass the test by which they are marked
pub known-count_by : (test : ℕ → Bool) (levels : List ℕ) (states : List Tern) → length states ≡ length levels →
    known (λ node. test (slice_index levels node)) states ≤ count_by test levels
known-count_by test [] [] count = omega arith
known-count_by test [] (state ∷ states) count = absurd (omega arith)
known-count_by test (level ∷ levels) [] count = absurd (omega arith)
known-count_by test (level ∷ levels) (state ∷ states) count =
    omega (
      arith,
      sum_by-cons (λ x. cond (test x) 1 0) level levels,
      weight-cond (test level) state,
      known-count_by test levels states (omega arith),
    )

-- two states of all nodes are the same, or they differ at some node
pub same_or_somewhere : (old new : List Tern) → length new ≡ length old →
    (new ≡ old) ⊎ ((node : ℕ) × (node < length old) × (state_at new node ≢ state_at old node))
same_or_somewhere [] [] count = inl refl
same_or_somewhere [] (t ∷ new) count = absurd (omega arith)
same_or_somewhere (s ∷ old) [] count = absurd (omega arith)
same_or_somewhere (s ∷ old) (t ∷ new) count =
    elim (same_or_other t s) [
      | inl one ↦ elim (same_or_somewhere old new (omega arith)) [
        | inl rest ↦ inl cc
        | inr there ↦ inr (suc there.0, omega (arith, there.1), there.2)
      ]
      | inr here ↦ inr (0, omega arith, here)
    ]
