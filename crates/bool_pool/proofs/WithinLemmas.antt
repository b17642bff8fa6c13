-- What a formula is within: the operations that are listed for it, and a bound on its variables.
-- A step of a maker lists at most one place more, so that steps bound the operations that a formula reaches.
use Rattle.std.proofs.Common.{◌≡◌, ℕ, ◌+◌, ◌<◌, ◌≤◌, Bool, false, true, List, [], ◌∷◌, ◌++◌, length, Contains, sym, ap, subst, ◌∙◌, inl, inr, ⊎_elim, arith}
use Rattle.std.proofs.lemmas.List.{append_assoc, length-append}
use Rattle.std.proofs.lemmas.List.Elements.{Contains-get_or, Contains-append_right}
use Rattle.bool_pool.specs.declared.gate.Gate.{Gate}
use Rattle.bool_pool.specs.declared.gate.Gate.TheVariants.{Var}
use Rattle.bool_pool.specs.Gate.{gate_at, constant_gate, IsOperation, IsVariable, Extends}
use Rattle.bool_pool.specs.Reach.{Reaches, AnyReaches, IsWithin, AllWithin, IsGrown}
use Rattle.bool_pool.specs.Made.{IsLeaf, IsMade, IsFormed}
use Rattle.bool_pool.proofs.ReachLemmas.{Reaches-down, Reaches-old}

-- a longer list serves as well
pub IsWithin-listed : (gates : List Gate) (more listed : List ℕ) (bound i : ℕ) → IsWithin gates listed bound i
    → IsWithin gates (more ++ listed) bound i
IsWithin-listed gates more listed bound i within = record {
  inside = within.inside;
  operations = λ j reached operation. Contains-append_right more listed j (within.operations j reached operation);
  variables = within.variables;
}

-- further gates change nothing
pub IsWithin-extends : (old new : List Gate) (listed : List ℕ) (bound i : ℕ) → Extends old new → IsWithin old listed bound i
    → IsWithin new listed bound i
IsWithin-extends old new listed bound i extends within = record {
  inside = omega (arith, within.inside, extends.longer);
  operations = λ j reached operation.
      let before : Reaches old i j = Reaches-old old new i j extends within.inside reached in
      within.operations j before (subst IsOperation (same j before) operation);
  variables = λ v reached.
      let before : Reaches old i reached.place = Reaches-old old new i reached.place extends within.inside reached.reached in
      within.variables v (record {
        place = reached.place;
        reached = before;
        variable = sym (same reached.place before) ∙ reached.variable;
      });
}
  where
    same : (j : ℕ) → Reaches old i j → gate_at new j ≡ gate_at old j
    same j before = extends.kept j (omega (arith, Reaches-down old i j before, within.inside))

-- the same of several formulas
pub AllWithin-listed : (gates : List Gate) (more listed : List ℕ) (bound : ℕ) (is : List ℕ) → AllWithin gates listed bound is
    → AllWithin gates (more ++ listed) bound is
AllWithin-listed gates more listed bound [] within = tt
AllWithin-listed gates more listed bound (i ∷ is) within =
    (IsWithin-listed gates more listed bound i within.0, AllWithin-listed gates more listed bound is within.1)

pub AllWithin-extends : (old new : List Gate) (listed : List ℕ) (bound : ℕ) (is : List ℕ) → Extends old new
    → AllWithin old listed bound is → AllWithin new listed bound is
AllWithin-extends old new listed bound [] extends within = tt
AllWithin-extends old new listed bound (i ∷ is) extends within =
    (IsWithin-extends old new listed bound i extends within.0, AllWithin-extends old new listed bound is extends within.1)

-- what is reached from formulas that are within is listed, if it is an operation
any_listed : (gates : List Gate) (listed : List ℕ) (bound j : ℕ) (is : List ℕ) → AllWithin gates listed bound is
    → AnyReaches gates is j → IsOperation (gate_at gates j) → Contains listed j
any_listed gates listed bound j [] within reached operation = absurd reached
any_listed gates listed bound j (i ∷ is) within (inl reached) operation = within.0.operations j reached operation
any_listed gates listed bound j (i ∷ is) within (inr reached) operation = any_listed gates listed bound j is within.1 reached operation

-- and below the bound, if it is a variable
any_below : (gates : List Gate) (listed : List ℕ) (bound j v : ℕ) (is : List ℕ) → AllWithin gates listed bound is
    → AnyReaches gates is j → IsVariable (gate_at gates j) v → v < bound
any_below gates listed bound j v [] within reached variable = absurd reached
any_below gates listed bound j v (i ∷ is) within (inl reached) variable =
    within.0.variables v (record { place = j; reached = reached; variable = variable })
any_below gates listed bound j v (i ∷ is) within (inr reached) variable = any_below gates listed bound j v is within.1 reached variable

-- and a place of the pool
any_inside : (gates : List Gate) (listed : List ℕ) (bound j : ℕ) (is : List ℕ) → AllWithin gates listed bound is
    → AnyReaches gates is j → j < length gates
any_inside gates listed bound j [] within reached = absurd reached
any_inside gates listed bound j (i ∷ is) within (inl reached) = omega (arith, Reaches-down gates i j reached, within.0.inside)
any_inside gates listed bound j (i ∷ is) within (inr reached) = any_inside gates listed bound j is within.1 reached

-- one step lists one place more at most
pub IsGrown-made : (old new : List Gate) (listed operands : List ℕ) (meaning : (ℕ → Bool) → Bool) (bound r : ℕ) → Extends old new
    → IsMade old new operands meaning r → AllWithin old listed bound operands → IsGrown new listed bound 1 r
IsGrown-made old new listed operands meaning bound r extends made within = record {
  more = r ∷ [];
  few = omega arith;
  within = record {
    inside = made.inside;
    operations = λ j reached operation. ⊎_elim
        (λ own. subst (Contains (r ∷ listed)) (sym own.0) (Contains-get_or (r ∷ listed) 0 r (omega arith)))
        (λ any. Contains-append_right (r ∷ []) listed j
        (any_listed old listed bound j operands within any (subst IsOperation (same j any) operation)))
        (made.reach j reached);
    variables = λ v reached. ⊎_elim
        (λ own. absurd (own.1 v reached.variable))
        (λ any. any_below old listed bound reached.place v operands within any (sym (same reached.place any) ∙ reached.variable))
        (made.reach reached.place reached.reached);
  };
}
  where
    same : (j : ℕ) → AnyReaches old operands j → gate_at new j ≡ gate_at old j
    same j any = extends.kept j (any_inside old listed bound j operands within any)

-- what a maker made is formed in one step
pub IsFormed-made : (old new : List Gate) (operands : List ℕ) (meaning : (ℕ → Bool) → Bool) (r : ℕ) → Extends old new
    → IsMade old new operands meaning r → IsFormed old new 1 operands meaning r
IsFormed-made old new operands meaning r extends made = record {
  inside = made.inside;
  value_is = made.value_is;
  grown = λ listed bound within. IsGrown-made old new listed operands meaning bound r extends made within;
}

-- a formula that is within needs no place more
pub IsGrown-within : (gates : List Gate) (listed : List ℕ) (bound i : ℕ) → IsWithin gates listed bound i → IsGrown gates listed bound 0 i
IsGrown-within gates listed bound i within = record { more = []; few = omega arith; within = within }

-- places that are listed after others add up
pub IsGrown-after : (gates : List Gate) (first listed : List ℕ) (bound m n i : ℕ) → length first ≤ m
    → IsGrown gates (first ++ listed) bound n i → IsGrown gates listed bound (m + n) i
IsGrown-after gates first listed bound m n i few grown = record {
  more = grown.more ++ first;
  few = omega (arith, few, grown.few, length-append grown.more first);
  within = rw append_assoc grown.within;
}

-- a constant reaches no operation and no variable
pub IsWithin-constant : (gates : List Gate) (b : Bool) (meaning : (ℕ → Bool) → Bool) (listed : List ℕ) (bound r : ℕ)
    → IsLeaf gates (constant_gate b) meaning r → IsWithin gates listed bound r
IsWithin-constant gates b meaning listed bound r leaf = record {
  inside = leaf.inside;
  operations = λ j reached operation.
      absurd (no_operation b (subst IsOperation (ap (λ i. gate_at gates i) (leaf.reach j reached) ∙ leaf.gate_is) operation));
  variables = λ v reached.
      absurd (no_variable b v (sym (ap (λ i. gate_at gates i) (leaf.reach reached.place reached.reached) ∙ leaf.gate_is) ∙ reached.variable));
}
  where
    no_operation : (c : Bool) → IsOperation (constant_gate c) → ⊥
    no_operation true operation = operation
    no_operation false operation = operation

    no_variable : (c : Bool) (v : ℕ) → constant_gate c ≡ Var v → ⊥
    no_variable true v same = cc
    no_variable false v same = cc

-- a variable reaches no operation, and no variable but itself
pub IsWithin-variable : (gates : List Gate) (u : ℕ) (meaning : (ℕ → Bool) → Bool) (listed : List ℕ) (bound r : ℕ) → u < bound
    → IsLeaf gates (Var u) meaning r → IsWithin gates listed bound r
IsWithin-variable gates u meaning listed bound r below leaf = record {
  inside = leaf.inside;
  operations = λ j reached operation.
      absurd (subst IsOperation (ap (λ i. gate_at gates i) (leaf.reach j reached) ∙ leaf.gate_is) operation);
  variables = λ v reached.
      subst (λ w. w < bound)
      (own u v (sym (ap (λ i. gate_at gates i) (leaf.reach reached.place reached.reached) ∙ leaf.gate_is) ∙ reached.variable)) below;
}
  where
    own : (u v : ℕ) → Var u ≡ Var v → u ≡ v
    own u v same = cc
