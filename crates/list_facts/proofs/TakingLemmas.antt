-- A number is taken out of a list: all others stay, in some order.
use Rattle.std.proofs.Common.{◌≡◌, ◌≢◌, ℕ, ◌+◌, ◌-◌, ◌<◌, ◌==◌, inl, inr, not, List, length, get_or, set, nat_eq, sym, ap, subst, ◌∙◌, arith}
use Rattle.std.specs.List.{IsDistinct, swap_remove}
use Rattle.std.proofs.lemmas.Bool.{cases_lt, cases_eq, eq-eqb, ne_eqb}
use Rattle.std.proofs.lemmas.List.{get_or_default, get_or-set_same, get_or-set_other, get_or-take, length-set, length-take-le}
use Rattle.std.proofs.lemmas.Map.Keys.{apart_from_distinct, IsDistinct-from_apart}
use Rattle.list_facts.proofs.ContainsLemmas.{Contains-filter, Contains-from_filter, passes-from_filter}
use Rattle.list_facts.proofs.DistinctLemmas.{IsDistinct-filter}
use Rattle.list_facts.specs.Taking.{without, TakesOut}

-- by a filter
pub TakesOut-filtered : (number : ℕ) (old : List ℕ) → IsDistinct nat_eq old → TakesOut number old (without number old)
TakesOut-filtered number old distinct = record {
  kept = λ q other there. Contains-filter (λ one. not (one == number)) old q there (ap not (ne_eqb q number other));
  only = λ q there.
      let passed = passes-from_filter (λ one. not (one == number)) old q there in (
        Contains-from_filter (λ one. not (one == number)) old q there,
        (λ same. let fails = ap not (eq-eqb q number same) in absurd (cc (fails, passed))),
      );
  distinct = IsDistinct-filter (λ one. not (one == number)) old distinct;
}

module _ (xs : List ℕ) (i d : ℕ) (inside : i < length xs) (distinct : IsDistinct nat_eq xs) where
  -- at different positions stand different numbers
  apart : (a b : ℕ) → a < length xs → b < length xs → a ≢ b → get_or xs a 0 ≢ get_or xs b 0
  apart a b in_a in_b other same =
      elim (cases_lt a b) [
        | inl below ↦
            let differ = apart_from_distinct nat_eq xs a b 0 distinct below in_b in
            let equal = eq-eqb (get_or xs a 0) (get_or xs b 0) same in
            absurd (cc)
        | inr above ↦
            let differ = apart_from_distinct nat_eq xs b a 0 distinct (omega arith) in_a in
            let equal = eq-eqb (get_or xs b 0) (get_or xs a 0) (sym same) in
            absurd (cc)
      ]

  count : length (swap_remove xs i d) ≡ length xs - 1
  count =
      let whole = length-set xs i (get_or xs (length xs - 1) d) in
      length-take-le (length xs - 1) (set xs i (get_or xs (length xs - 1) d)) (omega arith)

  -- where each number that is left stood
  record Stood (k : ℕ) : Type 0 where
    at : ℕ
    below : at < length xs
    other : at ≢ i
    value : get_or (swap_remove xs i d) k 0 ≡ get_or xs at 0
    moved : (k ≡ i) → at ≡ length xs - 1
    stays : (k ≢ i) → at ≡ k

  stood : (k : ℕ) → k + 1 < length xs → Stood k
  stood k short =
      let last = get_or xs (length xs - 1) d in
      let cut : get_or (swap_remove xs i d) k 0 ≡ get_or (set xs i last) k 0 = get_or-take (length xs - 1) (set xs i last) k 0 (omega arith) in
      elim (cases_eq k i) [
        | inl same ↦ record {
          at = length xs - 1;
          below = omega arith;
          other = omega arith;
          value = cut ∙ subst (λ (j : ℕ). get_or (set xs i last) j 0 ≡ last) (sym same) (get_or-set_same xs i last 0 inside)
              ∙ get_or_default xs (length xs - 1) d 0 (omega arith);
          moved = λ _. omega arith;
          stays = λ differs. absurd (differs same);
        }
        | inr differs ↦ record {
          at = k;
          below = omega arith;
          other = differs;
          value = cut ∙ get_or-set_other xs i k last 0 differs;
          moved = λ same. absurd (differs same);
          stays = λ _. omega arith;
        }
      ]

  -- by the last one, which moves to its position
  pub TakesOut-swapped : (number : ℕ) → get_or xs i 0 ≡ number → TakesOut number xs (swap_remove xs i d)
  TakesOut-swapped number is = record {
    kept = λ q other there.
        let k = there.0 in
        let at : get_or xs k 0 ≡ q = get_or_default xs k 0 q there.1 ∙ there.2 in
        let elsewhere : k ≢ i = λ same. other (sym at ∙ ap (λ (j : ℕ). get_or xs j 0) same ∙ is) in
        elim (cases_lt (k + 1) (length xs)) [
          | inl short ↦
              let was = stood k short in
              let value : get_or (swap_remove xs i d) k q ≡ q =
              get_or_default (swap_remove xs i d) k q 0 (omega (arith, count)) ∙ was.value ∙ ap (λ (j : ℕ). get_or xs j 0) (was.stays elsewhere) ∙ at in
              (k, omega (arith, count), value)
          | inr last ↦
              let was = stood i (omega (arith, elsewhere, there.1)) in
              let is_last : was.at ≡ k = omega (arith, was.moved (omega arith), there.1) in
              let value : get_or (swap_remove xs i d) i q ≡ q =
              get_or_default (swap_remove xs i d) i q 0 (omega (arith, count, elsewhere, there.1)) ∙ was.value ∙ ap (λ (j : ℕ). get_or xs j 0) is_last ∙ at in
              (i, omega (arith, count, elsewhere, there.1), value)
        ];
    only = λ q there.
        let k = there.0 in
        let was = stood k (omega (arith, count, there.1)) in
        let at : get_or xs was.at 0 ≡ q = sym was.value ∙ get_or_default (swap_remove xs i d) k 0 q there.1 ∙ there.2 in (
          (was.at, was.below, get_or_default xs was.at q 0 was.below ∙ at),
          (λ same. apart was.at i was.below inside was.other (at ∙ same ∙ sym is)),
        );
    distinct =
        IsDistinct-from_apart nat_eq (swap_remove xs i d) (λ a b e below in_b.
        let one = stood a (omega (arith, count, below, in_b)) in
        let two = stood b (omega (arith, count, in_b)) in
        let differ : one.at ≢ two.at = positions_differ a b below in_b one two in
        let values = apart one.at two.at one.below two.below differ in
        let first = get_or_default (swap_remove xs i d) a e 0 (omega (arith, below, in_b)) ∙ one.value in
        let second = get_or_default (swap_remove xs i d) b e 0 in_b ∙ two.value in
        ne_eqb (get_or (swap_remove xs i d) a e) (get_or (swap_remove xs i d) b e) (λ same. values (sym first ∙ same ∙ second)));
  }
    where
      positions_differ : (a b : ℕ) → a < b → b < length (swap_remove xs i d) → (one : Stood a) → (two : Stood b) → one.at ≢ two.at
      positions_differ a b below in_b one two =
          elim (cases_eq a i) [
            | inl first ↦
                let other : b ≢ i = omega arith in
                omega (arith, one.moved first, two.stays other, count, in_b)
            | inr not_first ↦
                elim (cases_eq b i) [
                  | inl second ↦ omega (arith, one.stays not_first, two.moved second, count, below, in_b)
                  | inr not_second ↦ omega (arith, one.stays not_first, two.stays not_second, below)
                ]
          ]
