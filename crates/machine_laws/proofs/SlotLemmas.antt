-- Slots of parts: a part is written over, or comes behind the others.
use Rattle.std.proofs.Common.{◌≡◌, ◌≢◌, ℕ, ◌<◌, inl, inr, ◌⊎◌, List, [], ◌∷◌, ◌++◌, length, refl, sym, ap, subst, ◌∙◌, arith}
use Rattle.std.specs.Prelude.{Contains, slice_set}
use Rattle.std.proofs.lemmas.Bool.{cases_lt}
use Rattle.std.proofs.lemmas.List.{get_or-set_same, get_or-set_other, get_or_append_left, get_or_push, length-set, length_push}
use Rattle.machine_parts.specs.declared.part.MachinePart.{MachinePart}
use Rattle.machine_parts.specs.Parts.{Stands, HasMember, ReadsAt, IsStale}
use Rattle.machine_laws.specs.Seating.{IsVacant}

module _ (parts : List MachinePart) (k : ℕ) (e : MachinePart) (inside : k < length parts) where
  abbrev pub written : List MachinePart
  written = slice_set parts k e

  -- another part stays
  pub Stands-other : (l : ℕ) (part : MachinePart) → l ≢ k → Stands parts l part → Stands written l part
  Stands-other l part differs stands = record {
    inside = omega (arith, stands.inside, length-set parts k e);
    here = get_or-set_other parts k l e part differs ∙ stands.here;
  }

  pub Stands-was : (l : ℕ) (part : MachinePart) → l ≢ k → Stands written l part → Stands parts l part
  Stands-was l part differs stands = record {
    inside = omega (arith, stands.inside, length-set parts k e);
    here = sym (get_or-set_other parts k l e part differs) ∙ stands.here;
  }

  -- and at the place stands the one that was written
  pub Stands-same : (part : MachinePart) → Stands written k part → part ≡ e
  Stands-same part stands = sym stands.here ∙ get_or-set_same parts k e part inside

  module _ (vacant : IsVacant e) where
    -- the vacant part has no members and reads nothing
    pub has_not_k : (l node : ℕ) → HasMember written l node → l ≢ k
    has_not_k l node has same =
        let is = Stands-same has.part (subst (λ n. Stands written n has.part) same has.stands) in
        omega (arith, has.member.inside, ap (λ (part : MachinePart). part.members) is, vacant.members)

    pub reads_not_k : (l node : ℕ) → ReadsAt written l node → l ≢ k
    reads_not_k l node reads same =
        let is = Stands-same reads.part (subst (λ n. Stands written n reads.part) same reads.stands) in
        let (i, within, here) = subst (λ xs. Contains xs node) (ap (λ (part : MachinePart). part.reads.items) is ∙ vacant.reads) reads.reads in
        omega (arith, within)

    pub stale_not_k : (l : ℕ) → IsStale written l → l ≢ k
    stale_not_k l stale same =
        let is = Stands-same stale.part (subst (λ n. Stands written n stale.part) same stale.stands) in
        omega (arith, stale.some, ap (λ (part : MachinePart). part.members) is, vacant.members)

    pub HasMember-was : (l node : ℕ) → HasMember written l node → HasMember parts l node
    HasMember-was l node has = record {
      part = has.part;
      stands = Stands-was l has.part (has_not_k l node has) has.stands;
      place = has.place;
      member = has.member;
    }

    pub ReadsAt-was : (l node : ℕ) → ReadsAt written l node → ReadsAt parts l node
    ReadsAt-was l node reads = record { part = reads.part; stands = Stands-was l reads.part (reads_not_k l node reads) reads.stands; reads = reads.reads }

    pub IsStale-was : (l : ℕ) → IsStale written l → IsStale parts l
    IsStale-was l stale = record {
      part = stale.part;
      stands = Stands-was l stale.part (stale_not_k l stale) stale.stands;
      some = stale.some;
      none = stale.none;
    }

  pub HasMember-other : (l node : ℕ) → l ≢ k → HasMember parts l node → HasMember written l node
  HasMember-other l node differs has = record {
    part = has.part;
    stands = Stands-other l has.part differs has.stands;
    place = has.place;
    member = has.member;
  }

  pub ReadsAt-other : (l node : ℕ) → l ≢ k → ReadsAt parts l node → ReadsAt written l node
  ReadsAt-other l node differs reads = record { part = reads.part; stands = Stands-other l reads.part differs reads.stands; reads = reads.reads }

  pub IsStale-other : (l : ℕ) → l ≢ k → IsStale parts l → IsStale written l
  IsStale-other l differs stale = record {
    part = stale.part;
    stands = Stands-other l stale.part differs stale.stands;
    some = stale.some;
    none = stale.none;
  }

module _ (parts : List MachinePart) (e : MachinePart) where
  abbrev pub pushed : List MachinePart
  pushed = parts ++ e ∷ []

  -- a part that was there stays
  pub Stands-before : (l : ℕ) (part : MachinePart) → Stands parts l part → Stands pushed l part
  Stands-before l part stands = record {
    inside = omega (arith, stands.inside, length_push parts e);
    here = get_or_append_left parts (e ∷ []) part l stands.inside ∙ stands.here;
  }

  -- the new one stands behind them
  pub Stands-last : Stands pushed (length parts) e
  Stands-last = record { inside = omega (arith, length_push parts e); here = get_or_push parts e e (length parts) refl }

  -- and there is no other
  pub Stands-cases : (l : ℕ) (part : MachinePart) → Stands pushed l part → Stands parts l part ⊎ ((l ≡ length parts) × (part ≡ e))
  Stands-cases l part stands =
      elim (cases_lt l (length parts)) [
        | inl inside ↦ inl (record { inside = inside; here = sym (get_or_append_left parts (e ∷ []) part l inside) ∙ stands.here })
        | inr past ↦
            let last : l ≡ length parts = omega (arith, stands.inside, length_push parts e) in
            inr (last, sym stands.here ∙ get_or_push parts e part l (sym last))
      ]
