-- What the makers promise, from what was chosen and put.
use Rattle.std.proofs.Common.{◌≡◌, ℕ, ◌<◌, ◌⊎◌, Bool, true, false, not, List, [], ◌∷◌, Result, Ok, Err, refl, sym, ap, ◌∙◌, subst, inl, inr, arith}
use Rattle.std.specs.Prelude.{IfOk}
use Rattle.bool_pool.specs.declared.gate.Id.{Id}
use Rattle.bool_pool.specs.declared.gate.Gate.{Gate}
use Rattle.bool_pool.specs.declared.choice.Choice.{Choice}
use Rattle.bool_pool.specs.declared.choice.Choice.TheVariants.{New}
use Rattle.bool_pool.specs.Gate.{gate_at, IsOperand, IsVariable, Extends}
use Rattle.bool_pool.specs.Value.{gate_value, value_at}
use Rattle.bool_pool.specs.Reach.{Reaches, here, through, AnyReaches}
use Rattle.bool_pool.specs.Choice.{IsOver, IsPlaced, Serves, IsGateFor, IsChoiceIn, Chooses}
use Rattle.bool_pool.specs.Made.{IsLeaf, IsMade}
use Rattle.bool_pool.proofs.ValueLemmas.{gate_value-same, value_at-extends}
use Rattle.bool_pool.proofs.ReachLemmas.{Reaches-old, AnyReaches-among}

-- a gate that was put over the operands is a formula made of them
pub IsMade-placed : (old new : List Gate) (operands : List ℕ) (meaning : (ℕ → Bool) → Bool) (gate : Gate) (r : ℕ)
    → Extends old new → IsOver old gate → IsPlaced new gate r → IsGateFor old operands meaning gate → IsMade old new operands meaning r
IsMade-placed old new operands meaning gate r extends over placed wanted = record {
  inside = placed.inside;
  value_is = λ vars.
      placed.value_is vars
      ∙ gate_value-same vars (value_at new vars) (value_at old vars) gate (λ k operand. value_at-extends old new vars k extends (over k operand))
      ∙ wanted.value_is vars;
  reach = reach_of r refl;
}
  where
    reach_of : (i : ℕ) → i ≡ r → (j : ℕ) → Reaches new i j → ((j ≡ r) × ((v : ℕ) → ¬ (IsVariable (gate_at new j) v))) ⊎ AnyReaches old operands j
    reach_of i same j here = inl (
      same,
      λ v is_variable.
          wanted.no_variable v (sym placed.gate_is ∙ ap (λ m. gate_at new m) (sym same) ∙ is_variable),
    )
    reach_of i same j (through k before operand rest) =
        let own : IsOperand gate k = subst (λ g. IsOperand g k) (ap (λ m. gate_at new m) same ∙ placed.gate_is) operand in
        inr (AnyReaches-among old operands k j (wanted.among k own) (Reaches-old old new k j extends (over k own) rest))

-- a gate without operands is a formula of that gate alone
pub IsLeaf-placed : (new : List Gate) (gate : Gate) (meaning : (ℕ → Bool) → Bool) (r : ℕ)
    → ((k : ℕ) → ¬ (IsOperand gate k)) → ((vars : ℕ → Bool) → gate_value vars (value_at new vars) gate ≡ meaning vars)
    → IsPlaced new gate r → IsLeaf new gate meaning r
IsLeaf-placed new gate meaning r none says placed = record {
  inside = placed.inside;
  gate_is = placed.gate_is;
  value_is = λ vars. placed.value_is vars ∙ says vars;
  reach = reach_of r refl;
}
  where
    reach_of : (i : ℕ) → i ≡ r → (j : ℕ) → Reaches new i j → j ≡ r
    reach_of i same j here = same
    reach_of i same j (through k before operand rest) =
        absurd (none k (subst (λ g. IsOperand g k) (ap (λ m. gate_at new m) same ∙ placed.gate_is) operand))

-- a formula of one gate stays so when gates are added
pub IsLeaf-extends : (old new : List Gate) (gate : Gate) (meaning : (ℕ → Bool) → Bool) (r : ℕ) → Extends old new
    → IsLeaf old gate meaning r → IsLeaf new gate meaning r
IsLeaf-extends old new gate meaning r extends leaf = record {
  inside = omega (arith, leaf.inside, extends.longer);
  gate_is = extends.kept r leaf.inside ∙ leaf.gate_is;
  value_is = λ vars. value_at-extends old new vars r extends leaf.inside ∙ leaf.value_is vars;
  reach = λ j reached. leaf.reach j (Reaches-old old new r j extends leaf.inside reached);
}

-- the formula under a negation is the negation's
pub Serves-not_not : (gates : List Gate) (a inner : ℕ) → inner < a → IsOperand (gate_at gates a) inner
    → ((vars : ℕ → Bool) → value_at gates vars a ≡ not (value_at gates vars inner))
    → Serves gates (a ∷ []) (λ vars. not (value_at gates vars a)) inner
Serves-not_not gates a inner before operand says = record {
  value_is = λ vars. sym (ap not (says vars) ∙ not_not (value_at gates vars inner));
  reach = λ j reached. inl (through inner before operand reached);
}
  where
    not_not : (b : Bool) → not (not b) ≡ b
    not_not true = refl
    not_not false = refl

-- a gate that was put for a choice is made as the choice says
pub IsMade-put : {E : Type 0} (old new : List Gate) (choice : Choice) (gate : Gate) (r : Result Id E)
    → choice ≡ New gate → IsChoiceIn old choice → Extends old new → IfOk r (λ id. IsPlaced new gate id.place)
    → IfOk r (λ id. (operands : List ℕ) (meaning : (ℕ → Bool) → Bool) → Chooses old operands meaning choice → IsMade old new operands meaning id.place)
IsMade-put old new choice gate (Ok id) is over extends placed = λ operands meaning chosen.
    IsMade-placed old new operands meaning gate id.place extends (subst (IsChoiceIn old) is over) placed
    (subst (Chooses old operands meaning) is chosen)
IsMade-put old new choice gate (Err e) is over extends placed = tt

-- what was taken for a choice is made as the choice says
pub IsMade-taken : {E : Type 0} (old new : List Gate) (choice : Choice) (r : Result Id E)
    → IfOk r (λ id. (operands : List ℕ) (meaning : (ℕ → Bool) → Bool) → Chooses old operands meaning choice → IsMade old new operands meaning id.place)
    → (operands : List ℕ) (meaning : (ℕ → Bool) → Bool) → Chooses old operands meaning choice
    → IfOk r (λ id. IsMade old new operands meaning id.place)
IsMade-taken old new choice (Ok id) made operands meaning chosen = made operands meaning chosen
IsMade-taken old new choice (Err e) made operands meaning chosen = tt
