-- A word in two runs: the valuation of the first column in which its letters differ.
use Rattle.std.specs.Prelude.{◌≡◌, ◌≢◌, ℕ, ◌<◌, Bool, List, length, Option, Some, None, Vec}
use Rattle.std.specs.declared.alloc.Global.{Global}
use Rattle.decision_graph.specs.Meaning.{assigned}
use Rattle.truth_makers.specs.declared.symbols.Symbols.{Symbols}
use Rattle.truth_makers.specs.Makers.{columns_in}
use Rattle.truth_makers.specs.Valuations.{column_of}
use Rattle.symbol_comparing.specs.Rails.{RailLists, letters_in}

-- the column of a valuation of the maker's variables
abbrev pub column_with : Symbols → List Bool → ℕ
column_with symbols vars = column_of (assigned vars) symbols.graph.variables

-- in the column of this valuation the letters differ, and in none before it
pub record DifferFirst (symbols : Symbols) (one other : RailLists) (vars : List Bool) : Type 0 where
  pub count : length vars ≡ symbols.graph.variables
  pub inside : column_with symbols vars < columns_in symbols
  pub differ : letters_in symbols one (column_with symbols vars) ≢ letters_in symbols other (column_with symbols vars)
  pub same_before : (earlier : ℕ) → earlier < column_with symbols vars → letters_in symbols one earlier ≡ letters_in symbols other earlier

-- the letters are the same in all columns, or else they differ first in that of the valuation
abbrev pub IsFirstDifference : Symbols → RailLists → RailLists → Option (Vec Bool Global) → Type 0
IsFirstDifference symbols one other None = (column : ℕ) → column < columns_in symbols → letters_in symbols one column ≡ letters_in symbols other column
IsFirstDifference symbols one other (Some vars) = DifferFirst symbols one other vars.items
