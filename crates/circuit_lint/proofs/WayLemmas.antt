-- Ways down: the first of the shortest ones, step by step.
use Rattle.std.proofs.Common.{◌≡◌, ℕ, zero, suc, ◌+◌, ◌<◌, ◌≤◌, inl, inr, List, [], ◌∷◌, ◌++◌, length, get_or, take, Option, Some, refl, sym, ap, ap₂, ◌∙◌, subst, arith, append_assoc, append-nil}
use Rattle.std.proofs.lemmas.Bool.{cases_lt}
use Rattle.std.proofs.lemmas.List.{length-take-le, get_or-take, get_or_push, length_push}
use Rattle.switch_paths.specs.declared.TheConstants.{GND}
use Rattle.switch_paths.specs.Graphs.{GraphData, IsStorage}
use Rattle.circuit_lint.specs.Conducting.{IsClosedAcross}
use Rattle.circuit_lint.specs.Shorts.{LeadsDown, AreFirst, GoesBefore}
use Rattle.circuit_lint.specs.Closed.{Lists, list_at, AreClosed}
use Rattle.circuit_lint.specs.Distances.{distance_at, AreDistances, IsFirstDown}
use Rattle.circuit_lint.specs.Ways.{IsStep, IsFirstStep, GoesDown, IsPartDown, IsWayFrom, AreWays}
use Rattle.circuit_lint.proofs.ClosedLemmas.{some_same, across_same, closed_whole}

-- of two lists that go before each other, both are one
same_first : (numbers others : List ℕ) → length numbers ≡ length others → AreFirst numbers others → AreFirst others numbers → numbers ≡ others
same_first [] [] count one two = refl
same_first [] (y ∷ ys) count one two = absurd (omega (arith, count))
same_first (x ∷ xs) [] count one two = absurd one
same_first (x ∷ xs) (y ∷ ys) count (inl low) (inl high) = absurd (omega (arith, low, high))
same_first (x ∷ xs) (y ∷ ys) count (inl low) (inr same) = absurd (omega (arith, low, same.0))
same_first (x ∷ xs) (y ∷ ys) count (inr same) (inl low) = absurd (omega (arith, low, same.0))
same_first (x ∷ xs) (y ∷ ys) count (inr one) (inr two) = ap₂ (λ z zs. z ∷ zs) one.0 (same_first xs ys (omega (arith, count)) one.1 two.1)

pub same_by_order : (places others : List ℕ) → GoesBefore places others → GoesBefore others places → places ≡ others
same_by_order places others (inl low) (inl high) = absurd (omega (arith, low, high))
same_by_order places others (inl low) (inr same) = absurd (omega (arith, low, same.0))
same_by_order places others (inr same) (inl low) = absurd (omega (arith, low, same.0))
same_by_order places others (inr one) (inr two) = same_first places others one.0 one.1 two.1

-- a list that goes before another isn't longer
pub not_longer : (places others : List ℕ) → GoesBefore places others → length places ≤ length others
not_longer places others (inl low) = omega (arith, low)
not_longer places others (inr same) = omega (arith, same.0)

-- of lists as long it is the first by numbers
pub first_of_equal : (places others : List ℕ) → length places ≡ length others → GoesBefore places others → AreFirst places others
first_of_equal places others same (inl low) = absurd (omega (arith, same, low))
first_of_equal places others same (inr one) = one.1

-- at Gnd no step is left
pub IsFirstDown-end : (g : GraphData) (node : ℕ) → node ≡ GND → IsFirstDown g node []
IsFirstDown-end g node is = record { down = is; first = λ others down. by others }
  where
    by : (others : List ℕ) → GoesBefore [] others
    by [] = inr (refl, tt)
    by (place ∷ places) = inl (omega arith)

module _ (g : GraphData) (distance : List (Option ℕ)) (are : AreDistances g distance) where
  -- a way down is no shorter than the distance
  pub far_enough : (node far : ℕ) (places : List ℕ) → distance_at distance node ≡ Some far → LeadsDown g places node → far ≤ length places
  far_enough node far places at down =
      let least = are.least node places down in
      omega (arith, some_same (sym at ∙ least.1), least.2)

  -- the first way down is as long as the distance
  pub first_length : (node far : ℕ) (places : List ℕ) → distance_at distance node ≡ Some far → IsFirstDown g node places → length places ≡ far
  first_length node far places at is =
      let way = are.way node far at in
      omega (arith, far_enough node far places at is.down, not_longer places way.0 (is.first way.0 way.1), way.2)

  -- a node with no switch between it and Gnd is Gnd
  pub down_to_none : (node : ℕ) → distance_at distance node ≡ Some 0 → node ≡ GND
  down_to_none node at = by (are.way node 0 at)
    where
      by : (places : List ℕ) × LeadsDown g places node × (length places ≡ 0) → node ≡ GND
      by ([], down, count) = down
      by (place ∷ places, down, count) = absurd (omega (arith, count))

  -- a node that is farther is a storage node
  pub storage_of : (node far : ℕ) → distance_at distance node ≡ Some (far + 1) → IsStorage g node
  storage_of node far at = by (are.way node (far + 1) at)
    where
      by : (places : List ℕ) × LeadsDown g places node × (length places ≡ far + 1) → IsStorage g node
      by ([], down, count) = absurd (omega (arith, count))
      by (place ∷ places, down, count) = down.0

  -- and from it some switch leads on
  pub step_of : (node far : ℕ) → distance_at distance node ≡ Some (far + 1) → (place : ℕ) × (next : ℕ) × IsStep g distance node far place next
  step_of node far at = by (are.way node (far + 1) at)
    where
      by : (places : List ℕ) × LeadsDown g places node × (length places ≡ far + 1) → (place : ℕ) × (next : ℕ) × IsStep g distance node far place next
      by ([], down, count) = absurd (omega (arith, count))
      by (place ∷ places, (storage, (next, across, down)), count) =
          let least = are.least next places down in
          let back = are.way next least.0 least.1 in
          let near : far + 1 ≤ length (place ∷ back.0) = far_enough node (far + 1) (place ∷ back.0) at (storage, (next, across, back.1)) in
          let same : least.0 ≡ far = omega (arith, least.2, count, near, back.2) in
          (place, next, record { joins = across; far = subst (λ (f : ℕ). distance_at distance next ≡ Some f) same least.1 })

  -- the first step
  module _ (lists : Lists) (closed : AreClosed g lists) (node left place next : ℕ) (at : distance_at distance node ≡ Some (left + 1))
      (step : IsFirstStep g distance (list_at lists node) node left place next) where
    storage : IsStorage g node
    storage = storage_of node left at

    -- with the first way down from there it is the first way down
    module _ (rest : List ℕ) (is : IsFirstDown g next rest) where
      count : length rest ≡ left
      count = first_length next left rest step.step.far is

      before : (others : List ℕ) → LeadsDown g others node → GoesBefore (place ∷ rest) others
      before [] down = absurd (omega (arith, far_enough node (left + 1) [] at down))
      before (other ∷ others) (there, (over, across, down)) =
          let least = are.least over others down in
          let back = are.way over least.0 least.1 in
          let near : left + 1 ≤ length (other ∷ back.0) = far_enough node (left + 1) (other ∷ back.0) at (there, (over, across, back.1)) in
          elim (cases_lt left (length others)) [
            | inl shorter ↦ inl (omega (arith, shorter, count))
            | inr as_long ↦
                let same : least.0 ≡ left = omega (arith, least.2, near, back.2, as_long) in
                let equal : length rest ≡ length others = omega (arith, count, as_long, least.2, same) in
                let leads : IsStep g distance node left other over = record { joins = across; far = subst (λ (f : ℕ). distance_at distance over ≡ Some f) same least.1 } in
                let low : place ≤ other = step.first other over (closed_whole g lists closed node storage.inside other over across) leads in
                inr (
                  omega (arith, equal),
                  elim (cases_lt place other) [
                    | inl lower ↦ inl lower
                    | inr not_lower ↦
                        let one : place ≡ other = omega (arith, low, not_lower) in
                        let meet : next ≡ over = across_same g other node next over (subst (λ (p : ℕ). IsClosedAcross g p node next) one step.step.joins) across in
                        inr (one, first_of_equal rest others equal (is.first others (subst (LeadsDown g others) (sym meet) down)))
                  ],
                )
          ]

      pub IsFirstDown-step : IsFirstDown g node (place ∷ rest)
      IsFirstDown-step = record { down = (storage, (next, step.step.joins, is.down)); first = before }

    -- so the way so far goes on to there
    pub IsPartDown-step : (from : ℕ) (old mid new : List ℕ) → IsPartDown g from node old mid → new ≡ mid ++ place ∷ [] → IsPartDown g from next old new
    IsPartDown-step from old mid new part grown = record {
      steps = part.steps ++ place ∷ [];
      grown = grown ∙ ap (λ xs. xs ++ place ∷ []) part.grown ∙ append_assoc old part.steps (place ∷ []);
      goes_on = λ rest is.
          subst (IsFirstDown g from) (sym (append_assoc part.steps (place ∷ []) rest)) (part.goes_on (place ∷ rest) (IsFirstDown-step rest is));
    }

  -- a way down that has come to Gnd is whole
  pub GoesDown-all : (from node : ℕ) (old new : List ℕ) → IsPartDown g from node old new → distance_at distance node ≡ Some 0 → GoesDown g from old new
  GoesDown-all from node old new part at = record {
    rest = part.steps;
    grown = part.grown;
    is = subst (IsFirstDown g from) (append-nil part.steps) (part.goes_on [] (IsFirstDown-end g node (down_to_none node at)));
  }

-- no step was taken
pub IsPartDown-none : (g : GraphData) (from : ℕ) (old : List ℕ) → IsPartDown g from from old old
IsPartDown-none g from old = record { steps = []; grown = sym (append-nil old); goes_on = λ rest is. is }

-- no list was made
pub AreWays-none : (g : GraphData) → AreWays g [] []
AreWays-none g = record { count = refl; each = λ k inside. absurd (omega (arith, inside)) }

-- one list more
pub AreWays-more : (g : GraphData) (starts : List ℕ) (i : ℕ) (old : List (List ℕ)) (way : List ℕ) → i < length starts → AreWays g (take i starts) old →
    IsWayFrom g (get_or starts i 0) way → AreWays g (take (i + 1) starts) (old ++ way ∷ [])
AreWays-more g starts i old way inside so_far from = record {
  count = length_push old way ∙ ap (λ n. n + 1) count ∙ sym (length-take-le (i + 1) starts (omega arith));
  each = λ k below. by k (omega (arith, below, length-take-le (i + 1) starts (omega arith)));
}
  where
    count : length old ≡ i
    count = so_far.count ∙ length-take-le i starts (omega arith)

    front : (xs : List (List ℕ)) (k : ℕ) → k < length xs → get_or (xs ++ way ∷ []) k [] ≡ get_or xs k []
    front [] k low = absurd (omega (arith, low))
    front (x ∷ xs) zero low = refl
    front (x ∷ xs) (suc k) low = front xs k (omega (arith, low))

    by : (k : ℕ) → k < i + 1 → IsWayFrom g (get_or (take (i + 1) starts) k 0) (get_or (old ++ way ∷ []) k [])
    by k below =
        let start : get_or (take (i + 1) starts) k 0 ≡ get_or starts k 0 = get_or-take (i + 1) starts k 0 below in
        subst (λ (p : ℕ). IsWayFrom g p (get_or (old ++ way ∷ []) k [])) (sym start)
        (elim (cases_lt k i) [
          | inl low ↦
              subst (IsWayFrom g (get_or starts k 0)) (sym (front old k (omega (arith, low, count))))
              (subst (λ (p : ℕ). IsWayFrom g p (get_or old k [])) (get_or-take i starts k 0 low) (so_far.each k (omega (arith, low, length-take-le i starts (omega arith)))))
          | inr past ↦
              let here : k ≡ i = omega (arith, below, past) in
              subst (λ (p : ℕ). IsWayFrom g (get_or starts p 0) (get_or (old ++ way ∷ []) p [])) (sym here)
              (subst (IsWayFrom g (get_or starts i 0)) (sym (get_or_push old way [] i count)) from)
        ])
