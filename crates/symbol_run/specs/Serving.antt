-- What a session knows of the names of the lines that come: each name has its place in a table, the variables first and then what was defined.
use Rattle.std.specs.Prelude.{◌≡◌, ℕ, ◌<◌, Bool, List, [], ◌∷◌, ◌++◌, length, map, Option, None, Some}
use Rattle.formulas.specs.declared.formula.Part.{Part}
use Rattle.formula_functions.specs.Tables.{value_named}
use Rattle.formula_functions.specs.Truths.{truth_of}
use Rattle.symbol_lines.specs.Names.{NamesData, with_lines}
use Rattle.symbol_script.specs.declared.line.SymbolLine.{SymbolLine}
use Rattle.symbol_script.specs.Lines.{names_of_line}
use Rattle.symbol_meaning.specs.Readings.{Valuations, values_with}
use Rattle.symbol_meaning.specs.Scripts.{asked_lines, definitions_of, first_by_names}

-- what is read of the lines that come
abbrev pub read_behind : Bool → Option ℕ → List (ℕ × List ℕ) → List (Option SymbolLine)
read_behind quiet cut lines = map (λ own. own.1) (asked_lines quiet cut lines)

-- a table's names behind a line with this definition, if it has one, and their truth values
abbrev pub names_after : Option (List ℕ × List Part) → List (List ℕ) → List (List ℕ)
names_after None names = names
names_after (Some own) names = names ++ own.0 ∷ []

abbrev pub truths_after : Option (List ℕ × List Part) → List (List ℕ) → List Bool → List Bool
truths_after None names truths = truths
truths_after (Some own) names truths = truths ++ truth_of (value_named names truths) own.1 ∷ []

-- where these names appeared and were defined, the table has the script's variables and what was defined, with their truth values in each column;
-- none of the lines that come is refused by its names, and with what they use and define the names are those of the script
pub record IsServed (quiet : Bool) (v : Valuations) (d : NamesData) (names : List (List ℕ)) (truths : ℕ → List Bool) (cut : Option ℕ)
    (lines : List (ℕ × List ℕ)) : Type 0 where
  pub table : names ≡ v.variables ++ d.defined
  pub counted : (column : ℕ) → column < v.columns → length (truths column) ≡ length names
  pub right : first_by_names d (asked_lines quiet cut lines) ≡ None
  pub variables : (with_lines (map names_of_line (read_behind quiet cut lines)) d).variables ≡ v.variables
  pub values : (column : ℕ) → column < v.columns → values_with names (truths column) (definitions_of (read_behind quiet cut lines)) ≡ v.values column
