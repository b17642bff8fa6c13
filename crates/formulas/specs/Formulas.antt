-- Formulas over named variables: their grammar, their value, and their parts in the order in which they are evaluated.
use Rattle.std.specs.Prelude.{◌≡◌, ℕ, suc, Bool, not, ◌&&◌, ◌||◌, List, [], ◌∷◌, ◌++◌, if◌then◌else◌}
use Rattle.formulas.specs.declared.formula.Sign.{Sign}
use Rattle.formulas.specs.declared.formula.Sign.TheVariants.{And, Differ, Or}
use Rattle.formulas.specs.declared.formula.Part.{Part}
use Rattle.formulas.specs.declared.formula.Part.TheVariants.{Name, Not, Join}
use Rattle.formulas.specs.Bytes.{dollar, exclamation, opening, closing, byte_of, rank_of, IsName}

-- a name, a negation, or two formulas that a sign joins
pub data Formula : Type 0 where
  variable : List ℕ → Formula
  negation : Formula → Formula
  joined : Sign → Formula → Formula → Formula

-- what a sign makes of two truth values
abbrev pub sign_value : Sign → Bool → Bool → Bool
sign_value And a b = a && b
sign_value Differ a b = if a then not b else b
sign_value Or a b = a || b

-- the truth value of a formula, by those of names
abbrev pub formula_value : (List ℕ → Bool) → Formula → Bool
formula_value values (variable name) = values name
formula_value values (negation f) = not (formula_value values f)
formula_value values (joined sign f g) = sign_value sign (formula_value values f) (formula_value values g)

-- the names of a formula, from left to right
abbrev pub names_of : Formula → List (List ℕ)
names_of (variable name) = name ∷ []
names_of (negation f) = names_of f
names_of (joined sign f g) = names_of f ++ names_of g

-- the text writes the formula at a rank: 4 a name, a negation or brackets, 3 also what `&` joins, 2 also what `^` joins, 1 also what `|` joins.
-- A sign groups to the left, since what stands behind it is of a higher rank
pub data Spells : ℕ → List ℕ → Formula → Type 0 where
  a_name : (name : List ℕ) → IsName name → Spells 4 (dollar ∷ name) (variable name)
  brackets : (text : List ℕ) (f : Formula) → Spells 1 text f → Spells 4 (opening ∷ (text ++ closing ∷ [])) f
  negated : (text : List ℕ) (f : Formula) → Spells 4 text f → Spells 4 (exclamation ∷ text) (negation f)
  signed : (sign : Sign) (text more : List ℕ) (f g : Formula) → Spells (rank_of sign) text f → Spells (suc (rank_of sign)) more g →
      Spells (rank_of sign) (text ++ byte_of sign ∷ more) (joined sign f g)
  higher : (rank : ℕ) (text : List ℕ) (f : Formula) → Spells (suc rank) text f → Spells rank text f

-- the parts of a formula, each operand before what it is an operand of
abbrev pub postfix : Formula → List Part
postfix (variable name) = Name name ∷ []
postfix (negation f) = postfix f ++ Not ∷ []
postfix (joined sign f g) = postfix f ++ (postfix g ++ Join sign ∷ [])

-- the parts are those of a formula
pub record IsPostfix (parts : List Part) : Type 0 where
  pub formula : Formula
  pub same : parts ≡ postfix formula

-- the parts are those of a formula that the text writes
pub record IsWritten (text : List ℕ) (parts : List Part) : Type 0 where
  pub formula : Formula
  pub spelled : Spells 1 text formula
  pub same : parts ≡ postfix formula
