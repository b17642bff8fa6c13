-- The parts of a formula have its truth value.
use Rattle.std.proofs.Common.{◌≡◌, ℕ, Bool, List, [], ◌∷◌, ◌++◌, refl, sym, ap, ◌∙◌, append_assoc, append-nil}
use Rattle.formulas.specs.declared.formula.Part.{Part}
use Rattle.formulas.specs.declared.formula.Part.TheVariants.{Not, Join}
use Rattle.formulas.specs.Formulas.{Formula, formula_value, postfix}
use Rattle.formulas.specs.Formulas.Formula.{variable, negation, joined}
use Rattle.formula_functions.specs.Truths.{after_parts, last_of, TruthsAreOfFormulas}

-- after the parts of a formula its value waits
pub waits-postfix : (values : List ℕ → Bool) (f : Formula) (parts : List Part) (waiting : List Bool)
    → after_parts values (postfix f ++ parts) waiting ≡ after_parts values parts (formula_value values f ∷ waiting)
waits-postfix values (variable name) parts waiting = refl
waits-postfix values (negation f) parts waiting =
    ap (λ (own : List Part). after_parts values own waiting) (append_assoc (postfix f) (Not ∷ []) parts)
    ∙ waits-postfix values f (Not ∷ parts) waiting
waits-postfix values (joined sign f g) parts waiting =
    ap (λ (own : List Part). after_parts values own waiting) (append_assoc (postfix f) (postfix g ++ Join sign ∷ []) parts)
    ∙ waits-postfix values f ((postfix g ++ Join sign ∷ []) ++ parts) waiting
    ∙ ap (λ (own : List Part). after_parts values own (formula_value values f ∷ waiting)) (append_assoc (postfix g) (Join sign ∷ []) parts)
    ∙ waits-postfix values g (Join sign ∷ parts) (formula_value values f ∷ waiting)

pub truths_of_formulas : TruthsAreOfFormulas
truths_of_formulas values f =
    ap last_of
    (ap (λ (own : List Part). after_parts values own []) (sym (append-nil (postfix f)))
    ∙ waits-postfix values f [] [])
