-- The places of pairs of formulas are collected pair by pair, and what they reach is what the pairs reach.
use Rattle.std.proofs.Common.{◌≡◌, ℕ, ◌+◌, ◌<◌, ◌⊎◌, ◌↔◌, inl, inr, ⊎_elim, List, length, Contains, All, Some, refl, ap, subst, ◌∙◌, arith}
use Rattle.std.specs.Prelude.{slice_get}
use Rattle.std.proofs.lemmas.Bool.{cases_lt}
use Rattle.std.proofs.lemmas.Option.{slice_get_within, get_or_from_slice_get}
use Rattle.bool_pool.specs.declared.gate.Gate.{Gate}
use Rattle.bool_pool.specs.declared.gate.Rails.{Rails}
use Rattle.bool_pool.specs.Gate.{gate_at, IsOperand}
use Rattle.bool_pool.specs.Reach.{Reaches, AnyReaches, here, through}
use Rattle.bool_pool.specs.Pairs.{AreReaching}
use Rattle.bool_pool.proofs.ReachLemmas.{Reaches-trans, Reaches-down}
use Rattle.bool_pool.proofs.CollectLemmas.{AnyReaches-contained, AnyReaches-by}
use Rattle.dual_rail.specs.Conduct.{AreInside}
use Rattle.formula_code.specs.Places.{IsRoot}

-- the places of one pair more
pub IsRoot-more : (outs : List Rails) (count place : ℕ) (rails : Rails) (old new : List ℕ) → slice_get outs count ≡ Some rails
    → Contains new place ↔ ((Contains old place ⊎ (place ≡ rails.hi.place)) ⊎ (place ≡ rails.lo.place))
    → Contains old place ↔ IsRoot outs count place
    → Contains new place ↔ IsRoot outs (count + 1) place
IsRoot-more outs count place rails old new answer each before = (
  λ held. ⊎_elim (⊎_elim (λ was. later (before.0 was)) (λ hi. last (inl hi))) (λ lo. last (inr lo)) (each.0 held),
  back,
)
  where
    later : IsRoot outs count place → IsRoot outs (count + 1) place
    later root = record { k = root.k; rails = root.rails; before = omega (arith, root.before); answer = root.answer; is = root.is }

    last : (place ≡ rails.hi.place) ⊎ (place ≡ rails.lo.place) → IsRoot outs (count + 1) place
    last is = record { k = count; rails = rails; before = omega arith; answer = answer; is = is }

    back : IsRoot outs (count + 1) place → Contains new place
    back root =
        elim (cases_lt root.k count) [
          | inl earlier ↦
              each.1 (inl (inl (before.1 (record { k = root.k; rails = root.rails; before = earlier; answer = root.answer; is = root.is }))))
          | inr later ↦
              let now : root.k ≡ count = omega (arith, root.before) in
              let of_last : slice_get outs root.k ≡ Some rails = ap (slice_get outs) now ∙ answer in
              let found = root.answer in
              let same : root.rails ≡ rails = cc in
              ⊎_elim (λ hi. each.1 (inl (inr hi))) (λ lo. each.1 (inr lo))
              (subst (λ (pair : Rails). (place ≡ pair.hi.place) ⊎ (place ≡ pair.lo.place)) same root.is)
        ]

module _ (gates : List Gate) (outs : List Rails) where
  -- the operand of a gate that is reached is reached
  pub AreReaching-operand : (place k : ℕ) → AreReaching gates outs place → k < place → IsOperand (gate_at gates place) k
      → AreReaching gates outs k
  AreReaching-operand place k reaching before operand = record {
    k = reaching.k;
    rails = reaching.rails;
    answer = reaching.answer;
    reached = ⊎_elim
        (λ hi. inl (extend reaching.rails.hi.place hi))
        (λ lo. inr (extend reaching.rails.lo.place lo))
        reaching.reached;
  }
    where
      extend : (i : ℕ) → Reaches gates i place → Reaches gates i k
      extend i reached = Reaches-trans gates i place k reached (through k before operand here)

  -- both formulas of each pair stand in the pool
  pair_inside : (k : ℕ) (rails : Rails) → All (AreInside gates) outs → slice_get outs k ≡ Some rails → AreInside gates rails
  pair_inside k rails inside answer =
      subst (AreInside gates) (get_or_from_slice_get outs k rails rails answer) (inside k rails (slice_get_within outs k rails answer))

  -- what is reached stands in the pool
  pub AreReaching-inside : (place : ℕ) → All (AreInside gates) outs → AreReaching gates outs place → place < length gates
  AreReaching-inside place inside reaching =
      let rails = pair_inside reaching.k reaching.rails inside reaching.answer in
      ⊎_elim
      (λ hi. let down = Reaches-down gates reaching.rails.hi.place place hi in omega (arith, rails.hi))
      (λ lo. let down = Reaches-down gates reaching.rails.lo.place place lo in omega (arith, rails.lo))
      reaching.reached

  -- the places of the pairs are places of the pool
  pub IsRoot-inside : (count place : ℕ) → All (AreInside gates) outs → IsRoot outs count place → place < length gates
  IsRoot-inside count place inside root =
      let rails = pair_inside root.k root.rails inside root.answer in
      ⊎_elim (λ hi. omega (arith, hi, rails.hi)) (λ lo. omega (arith, lo, rails.lo)) root.is

  -- what is listed as reached by the places of all pairs is what the pairs reach
  pub listed_as_reached : (roots listed : List ℕ) (count : ℕ) → count ≡ length outs
      → ((root : ℕ) → Contains roots root ↔ IsRoot outs count root)
      → ((place : ℕ) → Contains listed place ↔ AnyReaches gates roots place) → (place : ℕ) → Contains listed place ↔ AreReaching gates outs place
  listed_as_reached roots listed count all each reached place = (
    λ held. forth ((reached place).0 held),
    λ reaching. (reached place).1 (back reaching),
  )
    where
      reaches : (root : ℕ) → IsRoot outs count root → Reaches gates root place → AreReaching gates outs place
      reaches root is reached = record {
        k = is.k;
        rails = is.rails;
        answer = is.answer;
        reached = ⊎_elim
            (λ hi. inl (subst (λ i. Reaches gates i place) hi reached))
            (λ lo. inr (subst (λ i. Reaches gates i place) lo reached))
            is.is;
      }

      forth : AnyReaches gates roots place → AreReaching gates outs place
      forth any =
          let by = AnyReaches-by gates roots place any in
          reaches by.0 ((each by.0).0 by.1) by.2

      back : AreReaching gates outs place → AnyReaches gates roots place
      back reaching =
          let before : reaching.k < count = omega (arith, all, slice_get_within outs reaching.k reaching.rails reaching.answer) in
          let held : (root : ℕ) → (root ≡ reaching.rails.hi.place) ⊎ (root ≡ reaching.rails.lo.place) → Contains roots root =
          λ root is. (each root).1 (record { k = reaching.k; rails = reaching.rails; before = before; answer = reaching.answer; is = is }) in
          ⊎_elim
          (AnyReaches-contained gates roots reaching.rails.hi.place place (held reaching.rails.hi.place (inl refl)))
          (AnyReaches-contained gates roots reaching.rails.lo.place place (held reaching.rails.lo.place (inr refl)))
          reaching.reached
