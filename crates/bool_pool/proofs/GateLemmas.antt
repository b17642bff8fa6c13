-- Gates are compared by equality, and a pool stays in order when a gate is put.
use Rattle.std.proofs.Common.{◌≡◌, ℕ, ◌<◌, ◌≤◌, ◌⊎◌, Bool, true, false, List, [], ◌∷◌, ◌++◌, length, get_or, Some, slice_get, refl, sym, ap, ◌∙◌, subst, inl, inr, ⊎_elim, if◌then◌else◌, true≢false, arith, rules}
use Rattle.std.specs.List.{IsDistinct, list_any, position_or_len}
use Rattle.std.proofs.lemmas.List.{get_or_append_left, get_or_at, get_or_past, length_push}
use Rattle.std.proofs.lemmas.List.Folds.{list_any_at}
use Rattle.std.proofs.lemmas.List.Sums.{position_or_len_is}
use Rattle.std.proofs.lemmas.Option.{get_or_from_slice_get}
use Rattle.std.proofs.lemmas.Map.Keys.{apart_from_distinct}
use Rattle.indexmap.specs.IndexSet.{insert_key}
use Rattle.bool_pool.specs.declared.gate.Gate.{Gate}
use Rattle.bool_pool.specs.declared.gate.Gate.TheVariants.{False, True, Var, Not, And, Or}
use Rattle.bool_pool.specs.contracts.gate.GatePartialEq.TheImpl as eq
use Rattle.bool_pool.specs.Gate.{gate_at, IsOperand, IsInOrder, IsApart, AddsAt}
use Rattle.bool_pool.specs.Value.{gate_value, value_at}
use Rattle.bool_pool.specs.Choice.{IsOver, IsPlaced}
use Rattle.bool_pool.proofs.ValueLemmas.{value_at-gate}

-- a gate equals itself
gate_eq-same : (g : Gate) → eq.eq-value.it g g ≡ true
gate_eq-same False = search rules
gate_eq-same True = search rules
gate_eq-same (Var v) = search rules
gate_eq-same (Not a) = search rules
gate_eq-same (And a b) = search rules
gate_eq-same (Or a b) = search rules

-- equal gates are not at two places
equal_apart : (gates : List Gate) → IsDistinct eq.eq-value.it gates → (i j : ℕ) → i < j → j < length gates
    → gate_at gates i ≡ gate_at gates j → ⊥
equal_apart gates distinct i j less inside same =
    true≢false (sym (gate_eq-same (gate_at gates i)) ∙ ap (λ g. eq.eq-value.it (gate_at gates i) g) same
    ∙ apart_from_distinct eq.eq-value.it gates i j False distinct less inside)

-- keys that are apart are different gates
pub IsApart-from_distinct : (gates : List Gate) → IsDistinct eq.eq-value.it gates → IsApart gates
IsApart-from_distinct gates distinct i j inside_i inside_j same =
    ⊎_elim (λ less. absurd (equal_apart gates distinct i j less inside_j same))
    (λ rest. ⊎_elim (λ less. absurd (equal_apart gates distinct j i less inside_i (sym same))) (λ e. e) rest) (either i j)
  where
    either : (m n : ℕ) → (m < n) ⊎ ((n < m) ⊎ (m ≡ n))
    either m n = grind arith

-- a list in order stays so with one more gate over it
pub IsInOrder-push : (gates : List Gate) (gate : Gate) → IsInOrder gates → IsOver gates gate → IsInOrder (gates ++ gate ∷ [])
IsInOrder-push gates gate order over i k operand =
    ⊎_elim
    (λ (less : i < length gates). order i k (subst (λ g. IsOperand g k) (get_or_append_left gates (gate ∷ []) False i less) operand))
    (λ (rest : (i ≡ length gates) ⊎ (length gates < i)). ⊎_elim
    (λ e. rw e (over k (subst (λ g. IsOperand g k) (get_or_at gates gate [] False i (sym e)) operand)))
    (λ (more : length gates < i).
    let past : length (gates ++ gate ∷ []) ≤ i = omega (arith, length_push gates gate) in
    absurd (subst (λ g. IsOperand g k) (get_or_past (gates ++ gate ∷ []) i False past) operand))
    rest)
    (either i (length gates))
  where
    either : (m n : ℕ) → (m < n) ⊎ ((m ≡ n) ⊎ (n < m))
    either m n = grind arith

-- a list with no element that passes has its length as the first place
position_or_len-none : (test : Gate → Bool) (gates : List Gate) → list_any test gates ≡ false
    → position_or_len test gates ≡ length gates
position_or_len-none test gates none =
    position_or_len_is test gates (length gates) False (omega arith) fails (λ past. absurd (omega arith))
  where
    fails : (k : ℕ) → k < length gates → test (get_or gates k False) ≡ false
    fails k inside = by (test (get_or gates k False)) refl
      where
        by : (b : Bool) → test (get_or gates k False) ≡ b → test (get_or gates k False) ≡ false
        by true e = absurd (true≢false (sym (list_any_at test gates k False inside e) ∙ none))
        by false e = e

-- an insertion leaves the gates, or puts the gate at their end
inserted_either : (test : Gate → Gate → Bool) (gates : List Gate) (gate : Gate)
    → (insert_key test gates gate ≡ gates)
    ⊎ ((insert_key test gates gate ≡ gates ++ gate ∷ []) × (position_or_len (test gate) gates ≡ length gates))
inserted_either test gates gate = by (list_any (test gate) gates) refl
  where
    by : (b : Bool) → list_any (test gate) gates ≡ b
        → (insert_key test gates gate ≡ gates)
        ⊎ ((insert_key test gates gate ≡ gates ++ gate ∷ []) × (position_or_len (test gate) gates ≡ length gates))
    by true e = inl (ap (λ b. if b then gates else gates ++ gate ∷ []) e)
    by false e = inr (ap (λ b. if b then gates else gates ++ gate ∷ []) e, position_or_len-none (test gate) gates e)

-- gates that `==` takes as equal are equal
gate_eq-true : (g h : Gate) → eq.eq-value.it g h ≡ true → g ≡ h
gate_eq-true False False e = refl
gate_eq-true False h e = search rules
gate_eq-true True True e = refl
gate_eq-true True h e = search rules
gate_eq-true (Var v) (Var w) e = search rules
gate_eq-true (Var v) h e = search rules
gate_eq-true (Not a) (Not b) e = search rules
gate_eq-true (Not a) h e = search rules
gate_eq-true (And a b) (And c d) e = search rules
gate_eq-true (And a b) h e = search rules
gate_eq-true (Or a b) (Or c d) e = search rules
gate_eq-true (Or a b) h e = search rules

-- an insertion adds no gate but the one that was inserted
pub AddsAt-inserted : (old new : List Gate) (gate : Gate) (place : ℕ) → new ≡ insert_key eq.eq-value.it old gate
    → place ≡ position_or_len (eq.eq-value.it gate) old → AddsAt old new place
AddsAt-inserted old new gate place inserted index =
    ⊎_elim (λ stays. inl (inserted ∙ stays)) (λ grows. inr (index ∙ grows.1, added grows.0 (index ∙ grows.1)))
    (inserted_either eq.eq-value.it old gate)
  where
    added : insert_key eq.eq-value.it old gate ≡ old ++ gate ∷ [] → place ≡ length old → new ≡ old ++ gate_at new place ∷ []
    added grows at_end =
        let is : new ≡ old ++ gate ∷ [] = inserted ∙ grows in
        is ∙ ap (λ g. old ++ g ∷ []) (sym (ap (λ gates. gate_at gates place) is ∙ get_or_at old gate [] False place (sym at_end)))

-- a gate that was inserted stands where the set says
pub IsPlaced-inserted : (old new : List Gate) (gate : Gate) (place : ℕ) → IsInOrder old → IsOver old gate
    → new ≡ insert_key eq.eq-value.it old gate → place < length new
    → (k : Gate) × (slice_get new place ≡ Some k) × (eq.eq-value.it gate k ≡ true) → IsPlaced new gate place
IsPlaced-inserted old new gate place order over inserted inside stored =
    let sorted : IsInOrder new = subst IsInOrder (sym inserted)
    (⊎_elim (λ stays. subst IsInOrder (sym stays) order) (λ grows. subst IsInOrder (sym grows.0) (IsInOrder-push old gate order over))
    (inserted_either eq.eq-value.it old gate)) in
    let found : gate_at new place ≡ gate = get_or_from_slice_get new place stored.0 False stored.1 ∙ sym (gate_eq-true gate stored.0 stored.2) in
    record {
      inside = inside;
      gate_is = found;
      value_is = λ vars. value_at-gate new vars place sorted inside ∙ ap (λ g. gate_value vars (value_at new vars) g) found;
    }
