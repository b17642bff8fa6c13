-- A mark that is set or cleared, and all other marks.
use Rattle.std.proofs.Common.{◌≡◌, ◌≢◌, ℕ, ◌<◌, Bool, true, false, inl, inr, ◌⊎◌, List, length, sym, subst, ◌∙◌, arith}
use Rattle.std.specs.Prelude.{slice_set}
use Rattle.std.proofs.lemmas.Bool.{cases_lt, cases_eq}
use Rattle.std.proofs.lemmas.List.{get_or-set_same, get_or-set_other, get_or_past, length-set}
use Rattle.machine_parts.specs.Marking.{IsMarked}

-- a marked part is one of the parts
pub marked_inside : (marks : List Bool) (k : ℕ) → IsMarked marks k → k < length marks
marked_inside marks k marked =
    elim (cases_lt k (length marks)) [
      | inl inside ↦ inside
      | inr past ↦ let none = get_or_past marks k false past in absurd (cc)
    ]

-- a mark that is set is set
pub marked-set : (marks : List Bool) (k : ℕ) → k < length marks → IsMarked (slice_set marks k true) k
marked-set marks k inside = get_or-set_same marks k true false inside

-- and one that is cleared isn't
pub marked-cleared : (marks : List Bool) (k : ℕ) → ¬ IsMarked (slice_set marks k false) k
marked-cleared marks k marked =
    let inside : k < length marks = omega (arith, marked_inside (slice_set marks k false) k marked, length-set marks k false) in
    let clear = get_or-set_same marks k false false inside in
    absurd (cc)

-- any other part is marked as before
pub marked-other : (marks : List Bool) (k l : ℕ) (mark : Bool) → l ≢ k → IsMarked (slice_set marks k mark) l → IsMarked marks l
marked-other marks k l mark differs marked = sym (get_or-set_other marks k l mark false differs) ∙ marked

pub marked-kept : (marks : List Bool) (k l : ℕ) (mark : Bool) → l ≢ k → IsMarked marks l → IsMarked (slice_set marks k mark) l
marked-kept marks k l mark differs marked = get_or-set_other marks k l mark false differs ∙ marked

-- setting a mark keeps all others
pub marked-stays : (marks : List Bool) (k l : ℕ) → IsMarked marks l → IsMarked (slice_set marks k true) l
marked-stays marks k l marked =
    elim (cases_eq l k) [
      | inl same ↦ subst (IsMarked (slice_set marks k true)) (sym same) (marked-set marks k (subst (λ n. n < length marks) same (marked_inside marks l marked)))
      | inr differs ↦ marked-kept marks k l true differs marked
    ]

-- and makes one more at most
pub marked-set_cases : (marks : List Bool) (k l : ℕ) → IsMarked (slice_set marks k true) l → IsMarked marks l ⊎ (l ≡ k)
marked-set_cases marks k l marked =
    elim (cases_eq l k) [
      | inl same ↦ inr same
      | inr differs ↦ inl (marked-other marks k l true differs marked)
    ]

-- clearing a mark keeps all others
pub marked-cleared_was : (marks : List Bool) (k l : ℕ) → IsMarked (slice_set marks k false) l → IsMarked marks l
marked-cleared_was marks k l marked =
    elim (cases_eq l k) [
      | inl same ↦ absurd (marked-cleared marks k (subst (IsMarked (slice_set marks k false)) same marked))
      | inr differs ↦ marked-other marks k l false differs marked
    ]

pub marked-cleared_cases : (marks : List Bool) (k l : ℕ) → IsMarked marks l → IsMarked (slice_set marks k false) l ⊎ (l ≡ k)
marked-cleared_cases marks k l marked =
    elim (cases_eq l k) [
      | inl same ↦ inr same
      | inr differs ↦ inl (marked-kept marks k l false differs marked)
    ]
