-- A text writes one formula alone, and its parts are what is read of it.
use Rattle.std.proofs.Common.{◌≡◌, ℕ, List, [], ◌∷◌, ◌++◌, Some, refl, sym, ap, ◌∙◌, append_assoc}
use Rattle.formulas.specs.declared.formula.Part.{Part}
use Rattle.formulas.specs.declared.formula.Part.TheVariants.{Name, Not, Join}
use Rattle.formulas.specs.Formulas.{Formula, postfix, IsWritten}
use Rattle.formulas.specs.Formulas.Formula.{variable, negation, joined}
use Rattle.formulas.specs.Reading.{formula_of}
use Rattle.formulas.specs.Laws.{FormulasAreOfTheGrammar, TextsWriteOneFormula}
use Rattle.formulas.proofs.ReadLemmas.{reads-formula}
use Rattle.formulas.proofs.WrittenLemmas.{formula-written}

-- a part of a formula on the formulas that stand before it
abbrev built_of : Part → List Formula → List Formula
built_of (Name name) all = variable name ∷ all
built_of Not [] = []
built_of Not (f ∷ all) = negation f ∷ all
built_of (Join sign) [] = []
built_of (Join sign) (g ∷ []) = []
built_of (Join sign) (g ∷ f ∷ all) = joined sign f g ∷ all

-- the formulas that parts are of, the last first
abbrev built : List Part → List Formula → List Formula
built [] all = all
built (own ∷ parts) all = built parts (built_of own all)

-- the parts of a formula are of it
built-postfix : (f : Formula) (parts : List Part) (all : List Formula) → built (postfix f ++ parts) all ≡ built parts (f ∷ all)
built-postfix (variable name) parts all = refl
built-postfix (negation f) parts all =
    ap (λ own. built own all) (append_assoc (postfix f) (Not ∷ []) parts) ∙ built-postfix f (Not ∷ parts) all
built-postfix (joined sign f g) parts all =
    ap (λ own. built own all) (append_assoc (postfix f) (postfix g ++ Join sign ∷ []) parts)
    ∙ built-postfix f ((postfix g ++ Join sign ∷ []) ++ parts) all
    ∙ ap (λ own. built own (f ∷ all)) (append_assoc (postfix g) (Join sign ∷ []) parts)
    ∙ built-postfix g (Join sign ∷ parts) (f ∷ all)

-- formulas with the same parts are one
postfix-same : (f g : Formula) → postfix f ≡ postfix g → f ≡ g
postfix-same f g same =
    let one : f ∷ [] ≡ g ∷ [] =
    sym (built-postfix f [] []) ∙ ap (λ own. built (own ++ []) []) same ∙ built-postfix g [] [] in
    cc

pub one_formula : TextsWriteOneFormula
one_formula text f g one other =
    let read : Some (postfix f) ≡ Some (postfix g) = sym (reads-formula text f one) ∙ reads-formula text g other in
    postfix-same f g (let e : postfix f ≡ postfix g = cc in e)

-- parts that a text writes are read
pub written-read : (text : List ℕ) (parts : List Part) → IsWritten text parts → formula_of text ≡ Some parts
written-read text parts written = reads-formula text written.formula written.spelled ∙ ap Some (sym written.same)

pub formulas_grammar : FormulasAreOfTheGrammar
formulas_grammar text parts = (formula-written text parts, written-read text parts)
