-- Code for formulas: each place in turn can be lowered, and the code means the formulas, with one instruction for each operation.
use Rattle.std.proofs.Common.{◌≡◌, ℕ, ◌<◌, ◌≤◌, ◌↔◌, inl, inr, ⊎_elim, Bool, true, false, cond, List, [], ◌∷◌, length, get_or, take, map, All, Contains, Option, Some, IsSome, refl, sym, ap, subst, ◌∙◌, arith}
use Rattle.std.specs.Prelude.{slice_get, nat_eq, filter, slice_index, option_map}
use Rattle.std.specs.List.{IsDistinct}
use Rattle.std.specs.List.Sorted.{IsStrictlyIncreasing}
use Rattle.std.proofs.lemmas.Bool.{ne_eqb, false≢true}
use Rattle.std.proofs.lemmas.List.{take_all}
use Rattle.std.proofs.lemmas.List.Elements.{All-from_recursion, recursion_from_All, All-filter, All-contains, All-contains_itself, All-map, Contains-get_or, filter_passes}
use Rattle.std.proofs.lemmas.Map.Keys.{IsDistinct-head, IsDistinct-tail, IsDistinct-cons, IsDistinct-from_apart, sorted_from_strictly_increasing, below_from_sorted}
use Rattle.std.proofs.lemmas.Map.Made.{is_member-filter, is_member-Decides}
use Rattle.std.proofs.lemmas.Map.Views.{exact_unsigned_eq}
use Rattle.std.specs.Cmp.{unsigned_Decides}
use Rattle.std.proofs.lemmas.Cmp.{nat_eq_equiv}
use Rattle.std.proofs.lemmas.Option.{slice_get-map, slice_get-get_or, same_Some}
use Rattle.bool_pool.specs.declared.gate.Gate.{Gate}
use Rattle.bool_pool.specs.declared.gate.Gate.TheVariants.{False, True, Var, Not, And, Or}
use Rattle.bool_pool.specs.declared.gate.Rails.{Rails}
use Rattle.bool_pool.specs.Gate.{gate_at, IsOperand, IsOperation, IsVariable}
use Rattle.bool_pool.specs.Reach.{here}
use Rattle.bool_pool.specs.Pairs.{AreReaching, HasVariablesBelow, ReachExactly}
use Rattle.straight_code.specs.declared.code.Operand.{Operand}
use Rattle.straight_code.specs.declared.code.Instruction.{Instruction}
use Rattle.straight_code.specs.Code.{results, IsCode, IsOutput}
use Rattle.formula_code.specs.Linear.{HasValues, Means}
use Rattle.formula_code.specs.Lowering.{is_operation, operations, operand_at, output_of, AreNoted, IsValueOf, AreLowered}
use Rattle.bool_pool.proofs.CollectLemmas.{below_listed}
use Rattle.formula_code.proofs.PlaceLemmas.{AreReaching-operand}
use Rattle.formula_code.proofs.LoweringLemmas.{value_noted}

-- numbers that rise differ
distinct_from_rising : (places : List ℕ) → IsStrictlyIncreasing places → IsDistinct nat_eq places
distinct_from_rising places rises =
    let sorted = sorted_from_strictly_increasing places rises in
    IsDistinct-from_apart nat_eq places
    (λ i j d before inside.
    let below = below_from_sorted places i j d sorted before inside in
    ne_eqb (get_or places i d) (get_or places j d) (λ same. absurd (omega (arith, below))))

-- a filter keeps numbers apart
IsDistinct-filter : (test : ℕ → Bool) (places : List ℕ) → IsDistinct nat_eq places → IsDistinct nat_eq (filter test places)
IsDistinct-filter test [] apart = apart
IsDistinct-filter test (place ∷ places) apart =
    let others = IsDistinct-filter test places (IsDistinct-tail nat_eq place places apart) in
    let unlike = λ (other : ℕ). nat_eq place other ≡ false in
    let from_first = All-filter test unlike places (All-from_recursion unlike places (IsDistinct-head nat_eq place places apart)) in
    kept (test place) (IsDistinct-cons nat_eq place (filter test places) (recursion_from_All unlike (filter test places) from_first) others) others
  where
    kept : (passes : Bool) → IsDistinct nat_eq (place ∷ filter test places) → IsDistinct nat_eq (filter test places)
        → IsDistinct nat_eq (cond passes (place ∷ filter test places) (filter test places))
    kept true with_first without = with_first
    kept false with_first without = without

-- a filter keeps what passes
Contains-filter : (test : ℕ → Bool) (places : List ℕ) (place : ℕ) → Contains (filter test places) place ↔ (Contains places place × (test place ≡ true))
Contains-filter test places place =
    let in_places = is_member-Decides unsigned_Decides places place in
    let in_filter = is_member-Decides unsigned_Decides (filter test places) place in (
      λ held. (
        All-contains (Contains places) (filter test places) place (All-filter test (Contains places) places (All-contains_itself places)) held,
        All-contains (λ other. test other ≡ true) (filter test places) place (filter_passes test places) held,
      ),
      λ both. in_filter.0
          (is_member-filter nat_eq_equiv test place (λ other same. ap test (exact_unsigned_eq place other same)) places
          ∙ rw (in_places.1 both.0, both.1) refl),
    )

-- the test finds the operations
is_operation_iff : (gate : Gate) → (is_operation gate ≡ true) ↔ IsOperation gate
is_operation_iff False = (λ is. absurd (false≢true is), λ none. absurd none)
is_operation_iff True = (λ is. absurd (false≢true is), λ none. absurd none)
is_operation_iff (Var v) = (λ is. absurd (false≢true is), λ none. absurd none)
is_operation_iff (Not a) = (λ is. tt, λ some. refl)
is_operation_iff (And a b) = (λ is. tt, λ some. refl)
is_operation_iff (Or a b) = (λ is. tt, λ some. refl)

-- after as many places as there are all are lowered
pub AreLowered-all : (gates : List Gate) (inputs : ℕ) (places seen : List ℕ) (count : ℕ) (instructions : List Instruction) (noted : ℕ → Option Operand)
    → seen ≡ places → length seen ≤ count → AreLowered gates inputs (take count seen) instructions noted
    → AreLowered gates inputs places instructions noted
AreLowered-all gates inputs places seen count instructions noted is enough lowered =
    subst (λ all. AreLowered gates inputs all instructions noted) (take_all count seen enough ∙ is) lowered

module _ (gates : List Gate) (outs : List Rails) (places : List ℕ) (rises : IsStrictlyIncreasing places)
    (each : (place : ℕ) → Contains places place ↔ AreReaching gates outs place) where
  -- the operands of the gate at a place stand among the places before it
  pub operand_before : (index k : ℕ) → index < length places → k < slice_index places index
      → IsOperand (gate_at gates (slice_index places index)) k → Contains (take index places) k
  operand_before index k inside before operand =
      let place = slice_index places index in
      let reached = AreReaching-operand gates outs place k ((each place).0 (Contains-get_or places index 0 inside)) before operand in
      below_listed places rises index inside k ((each k).1 reached) before

  -- the variable at a place is one of the inputs'
  pub variable_below : (bound place v : ℕ) → HasVariablesBelow gates outs bound → Contains places place → IsVariable (gate_at gates place) v
      → v < bound
  variable_below bound place v variables held is =
      let reaching = (each place).0 held in
      variables reaching.k reaching.rails v reaching.answer
      (⊎_elim
      (λ hi. inl (record { place = place; reached = hi; variable = is }))
      (λ lo. inr (record { place = place; reached = lo; variable = is }))
      reaching.reached)

  module _ (noted : ℕ → Option Operand) (some : (place : ℕ) → Contains places place → IsSome (noted place)) where
    -- both formulas of a pair were lowered
    pair_noted : (k : ℕ) (rails : Rails) → slice_get outs k ≡ Some rails → AreNoted noted rails
    pair_noted k rails answer = record {
      hi = some rails.hi.place ((each rails.hi.place).1 (record { k = k; rails = rails; answer = answer; reached = inl here }));
      lo = some rails.lo.place ((each rails.lo.place).1 (record { k = k; rails = rails; answer = answer; reached = inr here }));
    }

    -- so were those of each pair
    pub pairs_noted : All (AreNoted noted) outs
    pairs_noted = λ k other inside. pair_noted k (get_or outs k other) (slice_get-get_or outs k other inside)

  module _ (inputs : ℕ) (instructions : List Instruction) (noted : ℕ → Option Operand)
      (all : AreLowered gates inputs places instructions noted) where
    -- the formulas reach as many operations as there are instructions
    pub operations_exactly : ReachExactly gates outs (length instructions)
    operations_exactly = record {
      places = operations gates places;
      apart = IsDistinct-filter (λ place. is_operation (gate_at gates place)) places (distinct_from_rising places rises);
      each = λ place.
          let kept = Contains-filter (λ other. is_operation (gate_at gates other)) places place in
          let operation = is_operation_iff (gate_at gates place) in (
            λ held. let both = kept.0 held in (operation.0 both.1, (each place).0 both.0),
            λ is. kept.1 ((each place).1 is.1, operation.1 is.0),
          );
      number = sym all.number;
    }

    -- what stands for a formula has its value
    value_of : (k : ℕ) → IsSome (noted k) → IsValueOf gates inputs instructions k (operand_at noted k)
    value_of k some = value_noted gates inputs places instructions noted all k some

    -- the outputs read what is there
    pub program : IsCode (record { inputs = inputs; instructions = instructions; outputs = map (output_of noted) outs })
    program = record {
      reads = all.reads;
      outputs = All-map (IsOutput inputs (length instructions)) (output_of noted) outs
          (λ k other inside.
          let rails = get_or outs k other in
          let found = pairs_noted noted all.each k other inside in
          record { hi = (value_of rails.hi.place found.hi).allowed; lo = (value_of rails.lo.place found.lo).allowed });
    }

    -- and have the values of their formulas
    pub means : Means gates outs (record { inputs = inputs; instructions = instructions; outputs = map (output_of noted) outs })
    means = λ input vars counted variables k rails output answer is.
        let found = pair_noted noted all.each k rails answer in
        let same : output_of noted rails ≡ output =
        same_Some (output_of noted rails) output (ap (option_map (output_of noted)) (sym answer) ∙ sym (slice_get-map (output_of noted) outs k) ∙ is) in
        subst (HasValues gates vars rails input (results input instructions)) same (record {
          hi = (value_of rails.hi.place found.hi).value_is input vars counted variables;
          lo = (value_of rails.lo.place found.lo).value_is input vars counted variables;
        })
