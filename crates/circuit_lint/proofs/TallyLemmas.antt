-- The tally of dead switches: as places are counted, and as each likeness is taken out at its first place.
use Rattle.std.proofs.Common.{◌≡◌, ℕ, zero, suc, ◌+◌, ◌<◌, ◌≤◌, Bool, true, false, not, ◌&&◌, ◌||◌, cond, List, [], ◌∷◌, length, get_or, take, count_by, Option, Some, None, unwrap_or, inl, inr, nat_eq, refl, sym, ap, ◌∙◌, subst, arith, rules, if◌then◌else◌}
use Rattle.std.specs.List.{list_any}
use Rattle.std.proofs.lemmas.Bool.{cases_eq, eq-eqb, ne_eqb, and_from, cond-true, cond-false}
use Rattle.std.proofs.lemmas.List.{length-take-le}
use Rattle.std.proofs.lemmas.List.Sums.{count_by_more_yes, count_by_more_no, count_by-le-length, sum_by-cons}
use Rattle.std.proofs.lemmas.List.Folds.{list_any_more}
use Rattle.indexmap.specs.IndexMap.{Updates}
use Rattle.switch_paths.specs.declared.switching.Switch.{Switch}
use Rattle.switch_paths.specs.Graphs.{GraphData, place_at}
use Rattle.circuit_lint.specs.declared.counted.Counted.{Counted}
use Rattle.circuit_lint.specs.Dead.{is_dead, likeness, same_switch, is_dead_like, is_first_dead, alike_count, dead_at}
use Rattle.circuit_lint.specs.Tallies.{Tally, count_at, some_number, number_of, AreTallied, AreLeft, taken_of, LeavesOthers, counted_at}

-- a number is raised from 0 if there is none
some_number-raised : (n : ℕ) → Some (unwrap_or (some_number n) 0 + 1) ≡ some_number (n + 1)
some_number-raised n =
    sym (cond-false (nat_eq (n + 1) 0) None (Some (n + 1)) (ne_eqb (n + 1) 0 (λ e. omega (arith, e))) ∙ ap (λ m. Some (m + 1)) (sym (number n)))
  where
    number : (n : ℕ) → unwrap_or (some_number n) 0 ≡ n
    number n =
        elim (cases_eq n 0) [
          | inl none ↦ ap (λ o. unwrap_or o 0) (cond-true (nat_eq n 0) None (Some n) (eq-eqb n 0 none)) ∙ sym none
          | inr some ↦ ap (λ o. unwrap_or o 0) (cond-false (nat_eq n 0) None (Some n) (ne_eqb n 0 some))
        ]

some_number-some : (n : ℕ) → 0 < n → some_number n ≡ Some n
some_number-some n some = cond-false (nat_eq n 0) None (Some n) (ne_eqb n 0 (λ e. omega (arith, e, some)))

-- what is counted at the first places is no more than they are
pub tally_within : (places : List (Option Switch)) (k : ℕ) (tally : Tally) (alike : Switch) → k < length places → AreTallied (take k places) tally →
    unwrap_or (count_at tally alike) 0 ≤ k
tally_within places k tally alike inside are =
    let n = count_by (is_dead_like alike) (take k places) in
    let most : n ≤ k = omega (arith, count_by-le-length (is_dead_like alike) (take k places), length-take-le k places (omega arith)) in
    subst (λ (o : Option ℕ). unwrap_or o 0 ≤ k) (sym (are alike)) (by n most)
  where
    by : (n : ℕ) → n ≤ k → unwrap_or (some_number n) 0 ≤ k
    by n most =
        elim (cases_eq n 0) [
          | inl none ↦ subst (λ (o : Option ℕ). unwrap_or o 0 ≤ k) (sym (cond-true (nat_eq n 0) None (Some n) (eq-eqb n 0 none))) (omega arith)
          | inr some ↦ subst (λ (o : Option ℕ). unwrap_or o 0 ≤ k) (sym (cond-false (nat_eq n 0) None (Some n) (ne_eqb n 0 some))) most
        ]

module _ (places : List (Option Switch)) (k : ℕ) (inside : k < length places) where
  -- no dead switch stands at the place
  pub tallied-not : (tally : Tally) → ((alike : Switch) → is_dead_like alike (get_or places k None) ≡ false) → AreTallied (take k places) tally →
      AreTallied (take (k + 1) places) tally
  tallied-not tally fails are alike = are alike ∙ ap some_number (sym (count_by_more_no (is_dead_like alike) places k None inside (fails alike)))

  -- one more is counted there
  pub tallied-dead : (switch : Switch) (old new : Tally) (count : ℕ) → get_or places k None ≡ Some switch → is_dead switch ≡ true →
      count ≡ unwrap_or (count_at old (likeness switch)) 0 → Updates same_switch old new (likeness switch) (Some (count + 1)) →
      AreTallied (take k places) old → AreTallied (take (k + 1) places) new
  tallied-dead switch old new count there dead is updates are alike =
      updates.0 alike ∙ by (same_switch (likeness switch) alike) refl
    where
      tested : is_dead_like alike (get_or places k None) ≡ same_switch (likeness switch) alike
      tested = ap (is_dead_like alike) there ∙ ap (λ b. b && same_switch (likeness switch) alike) dead

      was : count_at old alike ≡ some_number (count_by (is_dead_like alike) (take k places))
      was = are alike

      by : (same : Bool) → same_switch (likeness switch) alike ≡ same →
          cond same (Some (count + 1)) (count_at old alike) ≡ number_of (take (k + 1) places) alike
      by true same =
          let one : likeness switch ≡ alike = search (rules, same) in
          ap (λ n. Some (n + 1)) (is ∙ ap (λ s. unwrap_or (count_at old s) 0) one ∙ ap (λ o. unwrap_or o 0) was)
          ∙ some_number-raised (count_by (is_dead_like alike) (take k places))
          ∙ ap some_number (sym (count_by_more_yes (is_dead_like alike) places k None inside (tested ∙ same)))
      by false same = was ∙ ap some_number (sym (count_by_more_no (is_dead_like alike) places k None inside (tested ∙ same)))

-- some place passes, so there is a number
counted_some : {X : Type 0} (p : X → Bool) (xs : List X) (k : ℕ) (d : X) → k < length xs → p (get_or xs k d) ≡ true → 0 < count_by p xs
counted_some p [] k d inside passes = absurd (omega (arith, inside))
counted_some {X} p (x ∷ xs) zero d inside passes =
    let here : ◌≡◌ {A = ℕ} (cond (p x) 1 0) 1 = ap {B = ℕ} (λ b. cond b 1 0) passes in
    let sum : count_by p (x ∷ xs) ≡ cond (p x) 1 0 + count_by p xs = sum_by-cons (λ (y : X). cond (p y) 1 0) x xs in
    omega (arith, here, sum)
counted_some {X} p (x ∷ xs) (suc k) d inside passes =
    let more : 0 < count_by p xs = counted_some p xs k d (omega (arith, inside)) passes in
    let sum : count_by p (x ∷ xs) ≡ cond (p x) 1 0 + count_by p xs = sum_by-cons (λ (y : X). cond (p y) 1 0) x xs in
    omega (arith, more, sum)

-- before the first place all that was tallied is left
pub left-all : (places : List (Option Switch)) (tally : Tally) → AreTallied places tally → AreLeft places 0 tally
left-all places tally are alike = are alike

-- of the dead switch at a place what is told is the number of its likeness, if that stands there first
pub told_at : (g : GraphData) (k : ℕ) (tally : Tally) → k < length g.places → AreLeft g.places k tally →
    counted_at k (taken_of (place_at g.places k) tally) ≡ dead_at g k
told_at g k tally inside left = by (place_at g.places k) refl
  where
    result : Bool → Option Switch → Option Counted
    result first place = if first then Some (record { number = k; count = alike_count g place }) else None

    by : (place : Option Switch) → place_at g.places k ≡ place → counted_at k (taken_of place tally) ≡ result (is_first_dead (take k g.places) place) place
    by None there = refl
    by (Some switch) there = dead (is_dead switch) refl
      where
        alike : Switch
        alike = likeness switch

        n : ℕ
        n = count_by (is_dead_like alike) g.places

        dead : (b : Bool) → is_dead switch ≡ b → counted_at k (if b then count_at tally alike else None) ≡
            result (b && not (list_any (is_dead_like alike) (take k g.places))) (Some switch)
        dead false is = refl
        dead true is = ap (counted_at k) (left alike) ∙ earlier (list_any (is_dead_like alike) (take k g.places))
          where
            itself : same_switch alike alike ≡ true
            itself = search rules

            some : 0 < n
            some = counted_some (is_dead_like alike) g.places k None inside (ap (is_dead_like alike) there ∙ and_from (is_dead switch) (same_switch alike alike) is itself)

            earlier : (b : Bool) → counted_at k (if b then None else number_of g.places alike) ≡ result (not b) (Some switch)
            earlier true = refl
            earlier false = ap (counted_at k) (some_number-some n some)

-- a likeness is taken out at its place
pub left-more : (places : List (Option Switch)) (k : ℕ) (old new : Tally) → k < length places → AreLeft places k old → LeavesOthers (place_at places k) old new →
    AreLeft places (k + 1) new
left-more places k old new inside left leaves alike =
    leaves alike
    ∙ ap (λ o. if is_dead_like alike (place_at places k) then None else o) (left alike)
    ∙ by (list_any (is_dead_like alike) (take k places)) (is_dead_like alike (place_at places k)) (number_of places alike)
    ∙ ap (λ b. if b then None else number_of places alike) (sym (list_any_more (is_dead_like alike) places k None inside))
  where
    by : (b c : Bool) (o : Option ℕ) → (if c then None else (if b then None else o)) ≡ (if b || c then None else o)
    by true true o = refl
    by true false o = refl
    by false true o = refl
    by false false o = refl
