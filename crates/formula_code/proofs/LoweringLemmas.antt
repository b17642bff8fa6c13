-- Code as it is made: a place more is lowered, and after the last one the outputs have the values of their formulas.
use Rattle.std.proofs.Common.{◌≡◌, ℕ, ◌+◌, ◌*◌, ◌/◌, ◌%◌, ◌<◌, inl, inr, ⊎_elim, Bool, true, false, not, cond, List, [], ◌∷◌, ◌++◌, length, get_or, Option, Some, None, IsSome, refl, sym, ap, subst, ◌∙◌, arith}
use Rattle.std.specs.Prelude.{slice_get, unwrap_or, nat_eq}
use Rattle.std.proofs.lemmas.Bool.{cases_lt, false≢true}
use Rattle.std.proofs.lemmas.Bool.Decides.{eqb_tells}
use Rattle.std.proofs.lemmas.List.{get_or_append_left, get_or_push, length_push, length-append}
use Rattle.std.proofs.lemmas.List.Elements.{Contains-push_cases, filter-append}
use Rattle.std.proofs.lemmas.Option.{slice_get_within, slice_get-get_or, get_or_from_slice_get, same_Some, none-some}
use Rattle.ternary.specs.declared.tern.Tern.{Tern}
use Rattle.bool_pool.specs.declared.gate.Gate.{Gate}
use Rattle.bool_pool.specs.declared.gate.Gate.TheVariants.{False, True, Var, Not, And, Or}
use Rattle.bool_pool.specs.Gate.{gate_at, IsOperand}
use Rattle.bool_pool.specs.Value.{gate_value, value_at}
use Rattle.dual_rail.specs.Variables.{AreVariables}
use Rattle.straight_code.specs.declared.code.Operand.{Operand}
use Rattle.straight_code.specs.declared.code.Operand.TheVariants.{Constant, High, Low, Earlier}
use Rattle.straight_code.specs.declared.code.Instruction.{Instruction}
use Rattle.straight_code.specs.declared.code.Instruction.TheVariants as instruction
use Rattle.straight_code.specs.Code.{instruction_value, results, AreAllowed}
use Rattle.formula_code.specs.Lowering.{is_operation, operations, rail_of, operand_at, with_gate, gate_operand, IsValueOf, AreLowered}
use Rattle.straight_code.proofs.ResultLemmas.{IsAllowed-more, operand_value-added, earlier-added}

-- what is noted is what stands for the place
noted_is : (noted : Option Operand) → IsSome noted → noted ≡ Some (unwrap_or noted (Constant false))
noted_is None some = absurd (false≢true some)
noted_is (Some operand) some = refl

-- a variable stands for the rail "may be 1" if its number is even, and else for "may be 0"
rail_cases : (P : Operand → Type 0) (v : ℕ) → (v ≡ 2 * (v / 2) → P (High (v / 2))) → (v ≡ 2 * (v / 2) + 1 → P (Low (v / 2))) → P (rail_of v)
rail_cases P v even odd =
    ⊎_elim
    (λ yes. subst (λ b. P (cond b (High (v / 2)) (Low (v / 2)))) (sym yes.0) (even (omega arith)))
    (λ no. subst (λ b. P (cond b (High (v / 2)) (Low (v / 2)))) (sym no.0) (odd (omega (arith, no.1))))
    (eqb_tells (v % 2) 0)

-- an instruction of some and one more is one of these or the last
instruction_cases : (P : ℕ → Instruction → Type 0) (instructions : List Instruction) (last : Instruction)
    → ((k : ℕ) (one : Instruction) → slice_get instructions k ≡ Some one → P k one) → P (length instructions) last
    → (k : ℕ) (one : Instruction) → slice_get (instructions ++ last ∷ []) k ≡ Some one → P k one
instruction_cases P instructions last before own k one is =
    let all = instructions ++ last ∷ [] in
    let here : get_or all k one ≡ one = get_or_from_slice_get all k one one is in
    let inside : k < length all = slice_get_within all k one is in
    elim (cases_lt k (length instructions)) [
      | inl earlier ↦
          before k one
          (slice_get-get_or instructions k one earlier
          ∙ ap Some (sym (get_or_append_left instructions (last ∷ []) one k earlier) ∙ here))
      | inr end ↦
          let now : length instructions ≡ k = omega (arith, length_push instructions last) in
          let same : last ≡ one = sym (get_or_push instructions last one k now) ∙ here in
          subst (λ i. P i one) now (subst (P (length instructions)) same own)
    ]

-- a list of one place or none
length_one : (test : Bool) (place : ℕ) → length (cond test (place ∷ []) []) ≡ cond test 1 0
length_one true place = refl
length_one false place = refl

-- what stands for a place that was lowered has its formula's value
pub value_noted : (gates : List Gate) (inputs : ℕ) (places : List ℕ) (instructions : List Instruction) (noted : ℕ → Option Operand)
    → AreLowered gates inputs places instructions noted → (k : ℕ) → IsSome (noted k) → IsValueOf gates inputs instructions k (operand_at noted k)
value_noted gates inputs places instructions noted before k some =
    before.values k (operand_at noted k) (noted_is (noted k) some)

-- before the first place nothing is noted
pub AreLowered-none : (gates : List Gate) (inputs : ℕ) (instructions : List Instruction) (noted : ℕ → Option Operand)
    → instructions ≡ [] → ((k : ℕ) → noted k ≡ None) → AreLowered gates inputs [] instructions noted
AreLowered-none gates inputs instructions noted empty none = record {
  reads = λ k one is. let inside = slice_get_within instructions k one is in absurd (omega (arith, inside, ap length empty));
  each = λ place held. absurd (omega (arith, held.1));
  values = λ place operand is. absurd (none-some operand (sym (none place) ∙ is));
  number = ap length empty;
}

module _ (gates : List Gate) (inputs place : ℕ) (places : List ℕ) (instructions : List Instruction) (noted : ℕ → Option Operand)
    (before : AreLowered gates inputs places instructions noted) where
  module _ (operand : Operand) (more : List Instruction) (next : ℕ → Option Operand)
      (next_is : (k : ℕ) → next k ≡ cond (nat_eq place k) (Some operand) (noted k))
      (reads : (k : ℕ) (one : Instruction) → slice_get more k ≡ Some one → AreAllowed inputs k one)
      (kept : (k : ℕ) (other : Operand) → IsValueOf gates inputs instructions k other → IsValueOf gates inputs more k other)
      (own : IsValueOf gates inputs more place operand)
      (number : length more ≡ length instructions + cond (is_operation (gate_at gates place)) 1 0) where
    -- a place more is noted
    next_here : next place ≡ Some operand
    next_here = ⊎_elim
        (λ yes. next_is place ∙ ap (λ b. cond b (Some operand) (noted place)) yes.0)
        (λ no. absurd (no.1 refl))
        (eqb_tells place place)

    -- what was noted stays so or is the new one
    next_cases : (P : Option Operand → Type 0) (k : ℕ) → (place ≡ k → P (Some operand)) → P (noted k) → P (next k)
    next_cases P k here_is there = ⊎_elim
        (λ yes. subst P (sym (next_is k ∙ ap (λ b. cond b (Some operand) (noted k)) yes.0)) (here_is yes.1))
        (λ no. subst P (sym (next_is k ∙ ap (λ b. cond b (Some operand) (noted k)) no.0)) there)
        (eqb_tells place k)

    -- a place more is lowered
    AreLowered-noted : AreLowered gates inputs (places ++ place ∷ []) more next
    AreLowered-noted = record {
      reads = reads;
      each = λ k held.
          ⊎_elim
          (λ old. next_cases IsSome k (λ _. refl) (before.each k old))
          (λ same. subst (λ i. IsSome (next i)) same (subst IsSome (sym next_here) refl))
          (Contains-push_cases places place k held);
      values = λ k other.
          next_cases (λ found. found ≡ Some other → IsValueOf gates inputs more k other) k
          (λ same is. subst (λ i. IsValueOf gates inputs more i other) same
          (subst (IsValueOf gates inputs more place) (same_Some operand other is) own))
          (λ is. kept k other (before.values k other is));
      number =
          let test = λ (i : ℕ). is_operation (gate_at gates i) in
          let split = filter-append test places (place ∷ []) in
          omega (
            arith,
            number,
            before.number,
            ap length split,
            length-append (operations gates places) (cond (test place) (place ∷ []) []),
            length_one (test place) place,
          );
    }

  -- a constant or a variable adds no instruction
  AreLowered-leaf : (operand : Operand) (next : ℕ → Option Operand) → (gate : Gate) → gate_at gates place ≡ gate → is_operation gate ≡ false
      → ((k : ℕ) → next k ≡ cond (nat_eq place k) (Some operand) (noted k)) → IsValueOf gates inputs instructions place operand
      → AreLowered gates inputs (places ++ place ∷ []) instructions next
  AreLowered-leaf operand next gate is leaf next_is own =
      AreLowered-noted operand instructions next next_is before.reads (λ k other value. value) own
      (rw (is, leaf) (omega arith))

  -- an operation adds its instruction
  AreLowered-operation : (one : Instruction) (next : ℕ → Option Operand) → (gate : Gate) → gate_at gates place ≡ gate → is_operation gate ≡ true
      → ((k : ℕ) → next k ≡ cond (nat_eq place k) (Some (Earlier (length instructions))) (noted k))
      → AreAllowed inputs (length instructions) one
      → ((input : List Tern) (vars : ℕ → Bool) → length input ≡ inputs → AreVariables input vars
      → instruction_value input (results input instructions) one ≡ value_at gates vars place)
      → AreLowered gates inputs (places ++ place ∷ []) (instructions ++ one ∷ []) next
  AreLowered-operation one next gate is operation next_is allowed value =
      let longer : length (instructions ++ one ∷ []) ≡ length instructions + 1 = length_push instructions one in
      AreLowered-noted (Earlier (length instructions)) (instructions ++ one ∷ []) next next_is
      (instruction_cases (AreAllowed inputs) instructions one before.reads allowed)
      (λ k other old. record {
        allowed = IsAllowed-more inputs (length instructions) (length (instructions ++ one ∷ [])) other old.allowed (omega arith);
        value_is = λ input vars counted variables.
            operand_value-added input instructions one inputs other old.allowed ∙ old.value_is input vars counted variables;
      })
      (record {
        allowed = omega arith;
        value_is = λ input vars counted variables. earlier-added input instructions one ∙ value input vars counted variables;
      })
      (rw (is, operation) longer)

  -- the gate at one place more is lowered
  pub AreLowered-more : (gate : Gate) (next : ℕ → Option Operand) → gate_at gates place ≡ gate
      → ((vars : ℕ → Bool) → value_at gates vars place ≡ gate_value vars (value_at gates vars) gate)
      → ((k : ℕ) → IsOperand gate k → IsSome (noted k))
      → ((v : ℕ) → gate ≡ Var v → v < 2 * inputs)
      → ((k : ℕ) → next k ≡ cond (nat_eq place k) (Some (gate_operand (length instructions) gate)) (noted k))
      → AreLowered gates inputs (places ++ place ∷ []) (with_gate noted instructions gate) next
  AreLowered-more False next is value operands variable next_is =
      AreLowered-leaf (Constant false) next False is refl next_is
      (record { allowed = tt; value_is = λ input vars counted variables. sym (value vars) })
  AreLowered-more True next is value operands variable next_is =
      AreLowered-leaf (Constant true) next True is refl next_is
      (record { allowed = tt; value_is = λ input vars counted variables. sym (value vars) })
  AreLowered-more (Var v) next is value operands variable next_is =
      let below : v < 2 * inputs = variable v refl in
      AreLowered-leaf (rail_of v) next (Var v) is refl next_is
      (rail_cases (IsValueOf gates inputs instructions place) v
      (λ even. record {
        allowed = omega arith;
        value_is = λ input vars counted variables.
            sym (variables.one (v / 2) (omega arith)) ∙ ap vars (sym even) ∙ sym (value vars);
      })
      (λ odd. record {
        allowed = omega arith;
        value_is = λ input vars counted variables.
            sym (variables.zero (v / 2) (omega arith)) ∙ ap vars (sym odd) ∙ sym (value vars);
      }))
  AreLowered-more (Not a) next is value operands variable next_is =
      let of_a = value_noted gates inputs places instructions noted before a.place (operands a.place refl) in
      AreLowered-operation (instruction.Not (operand_at noted a.place)) next (Not a) is refl next_is of_a.allowed
      (λ input vars counted variables. ap not (of_a.value_is input vars counted variables) ∙ sym (value vars))
  AreLowered-more (And a b) next is value operands variable next_is =
      let of_a = value_noted gates inputs places instructions noted before a.place (operands a.place (inl refl)) in
      let of_b = value_noted gates inputs places instructions noted before b.place (operands b.place (inr refl)) in
      AreLowered-operation (instruction.And (operand_at noted a.place) (operand_at noted b.place)) next (And a b) is refl next_is
      (of_a.allowed, of_b.allowed)
      (λ input vars counted variables.
      rw (of_a.value_is input vars counted variables, of_b.value_is input vars counted variables) (sym (value vars)))
  AreLowered-more (Or a b) next is value operands variable next_is =
      let of_a = value_noted gates inputs places instructions noted before a.place (operands a.place (inl refl)) in
      let of_b = value_noted gates inputs places instructions noted before b.place (operands b.place (inr refl)) in
      AreLowered-operation (instruction.Or (operand_at noted a.place) (operand_at noted b.place)) next (Or a b) is refl next_is
      (of_a.allowed, of_b.allowed)
      (λ input vars counted variables.
      rw (of_a.value_is input vars counted variables, of_b.value_is input vars counted variables) (sym (value vars)))
