-- What is listed at the nodes of a list is marked, one node after the other.
use Rattle.std.proofs.Common.{◌≡◌, ℕ, ◌+◌, ◌<◌, ◌≤◌, inl, inr, List, length, sym, ◌∙◌, ap, arith, subst}
use Rattle.std.specs.Prelude.{Contains, slice_index_or}
use Rattle.std.proofs.lemmas.Bool.{cases_eq}
use Rattle.settling.proofs.NumbersLemmas.{shift}
use Rattle.wave_dump.specs.Entries.{listed_at, MarksNode}

-- what is listed at the first nodes of a list, so many, is marked
pub record MarkedFirst (lists : List (List ℕ)) (nodes : List ℕ) (at : ℕ) (marked : List ℕ) : Type 0 where
  pub there : (k number : ℕ) → k < at → Contains (listed_at lists (slice_index_or nodes k 0)) number → Contains marked number

pub first-none : (lists : List (List ℕ)) (nodes marked : List ℕ) → MarkedFirst lists nodes 0 marked
first-none lists nodes marked = record { there = λ k number below listed. absurd (omega (arith, below)) }

pub first-more : (lists : List (List ℕ)) (nodes old new : List ℕ) (at node : ℕ) → node ≡ slice_index_or nodes at 0 →
    MarksNode lists node old new → MarkedFirst lists nodes at old → MarkedFirst lists nodes (at + 1) new
first-more lists nodes old new at node is marks first = record {
  there = λ k number below listed. elim (cases_eq k at) [
    | inl here ↦ marks.there number
        (subst (λ node. Contains (listed_at lists node) number) (ap (λ k. slice_index_or nodes k 0) here ∙ sym is) listed)
    | inr other ↦ marks.stays number (first.there k number (omega (arith, below, other)) listed)
  ];
}

-- and what is listed at any of them
pub first-all : (lists : List (List ℕ)) (nodes marked : List ℕ) (at node number : ℕ) → length nodes ≤ at → MarkedFirst lists nodes at marked →
    Contains nodes node → Contains (listed_at lists node) number → Contains marked number
first-all lists nodes marked at node number end first (k, inside, is) listed =
    first.there k number (omega (arith, inside, end))
    (subst (λ node. Contains (listed_at lists node) number) (sym (shift nodes k node inside ∙ is)) listed)
