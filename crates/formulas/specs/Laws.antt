-- Laws of formulas: what is read is what the grammar says, and a text writes one formula alone.
use Rattle.std.specs.Prelude.{◌≡◌, ◌↔◌, ℕ, List, Some}
use Rattle.formulas.specs.declared.formula.Part.{Part}
use Rattle.formulas.specs.Formulas.{Formula, Spells, IsWritten}
use Rattle.formulas.specs.Reading.{formula_of}

-- the parts that are read of a text are those of the formula that it writes
abbrev pub FormulasAreOfTheGrammar : Type 0
FormulasAreOfTheGrammar = (text : List ℕ) (parts : List Part) → (formula_of text ≡ Some parts) ↔ IsWritten text parts

-- a text writes one formula alone
abbrev pub TextsWriteOneFormula : Type 0
TextsWriteOneFormula = (text : List ℕ) (f g : Formula) → Spells 1 text f → Spells 1 text g → f ≡ g
