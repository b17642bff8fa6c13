-- The letters that an assignment gives nodes under all valuations at once, by the functions that a stage's maker makes of its formulas.
use Rattle.std.specs.Prelude.{◌≡◌, ℕ, ◌<◌, Bool, List, map, All, Some, None, Result, Ok, IfErr, IfOk}
use Rattle.vector_values.specs.Values.{Letter}
use Rattle.node_values.specs.Givings.{letters_given}
use Rattle.formulas.specs.declared.formula.Part.{Part}
use Rattle.decision_graph.specs.declared.graph.GraphFault.{GraphFault}
use Rattle.formula_functions.specs.Tables.{TableData, value_named}
use Rattle.formula_functions.specs.Truths.{truth_of}
use Rattle.truth_columns.specs.Columns.{values_in}
use Rattle.truth_makers.specs.Expecting.{state_of_truth}
use Rattle.truth_makers.specs.Makers.{function_holds, IsFunctionOf, IsSpent}
use Rattle.truth_machine.specs.Symbols.{MakesMore}
use Rattle.symbol_stage.specs.declared.given.Letters.{Letters}
use Rattle.symbol_stage.specs.Given.{GivesLetters, letter_given}
use Rattle.symbol_stage.specs.Stages.{StageData, columns_on}
use Rattle.session_meaning.specs.Sessions.{HeldSession}
use Rattle.symbol_script.specs.declared.line.Assignment.{Assignment}
use Rattle.symbol_meaning.specs.Readings.{plain_under}
use Rattle.symbol_giving.specs.declared.letters.SymbolLetter.{SymbolLetter}
use Rattle.symbol_giving.specs.declared.letters.SymbolLetter.TheVariants.{Any, Same, Truth}

-- ---- names

-- the truth values that names have in a column, by the functions that they stand for; a name that stands for none is false
abbrev pub named_in : StageData → TableData → ℕ → List ℕ → Bool
named_in stage table column = value_named table.names (values_in (function_holds stage.machine.maker) column table.functions)

-- these functions are the stage's own
abbrev pub IsTableOf : StageData → TableData → Type 0
IsTableOf stage table = All (IsFunctionOf stage.machine.maker) table.functions

-- ---- letters

-- two functions of the stage's own that are the letter of a truth value in each column; the first holds where that is 1
pub record IsTruthLetter (stage : StageData) (given : Letters) : Type 0 where
  pub own : GivesLetters stage given
  pub truth : (column : ℕ) → column < columns_on stage → letter_given stage given column ≡ state_of_truth (function_holds stage.machine.maker given.hi column)

-- what a letter has of functions is the stage's own
abbrev pub IsLetterOf : StageData → SymbolLetter → Type 0
IsLetterOf stage Any = Unit {0}
IsLetterOf stage (Same state) = Unit {0}
IsLetterOf stage (Truth given) = IsTruthLetter stage given

-- the letter that it is in a column
abbrev pub letter_in : StageData → ℕ → SymbolLetter → Letter
letter_in stage column Any = None
letter_in stage column (Same state) = Some state
letter_in stage column (Truth given) = Some (letter_given stage given column)

-- a letter that is the same under all valuations, alone and with its node
abbrev pub same_letter : Letter → SymbolLetter
same_letter None = Any
same_letter (Some state) = Same state

abbrev pub same_pair : ℕ × Letter → ℕ × SymbolLetter
same_pair pair = (pair.0, same_letter pair.1)

-- nodes, each with the letter that its own is in a column
abbrev pub pairs_in : StageData → List (ℕ × SymbolLetter) → ℕ → List (ℕ × Letter)
pairs_in stage pairs column = map (λ pair. (pair.0, letter_in stage column pair.1)) pairs

-- in each column of a session an assignment gives these nodes their letters, where the names have the truth values of a table
abbrev pub AreGivenBy : HeldSession StageData → TableData → Assignment → StageData → List (ℕ × SymbolLetter) → Type 0
AreGivenBy old table own stage pairs =
    (column : ℕ) → column < columns_on old.stage →
    letters_given old.core.circuit old.core.vectors (plain_under (named_in old.stage table column) old.core.circuit old.core.vectors own)
    ≡ Ok (pairs_in stage pairs column)

-- ---- what making them does

-- the stage's maker made more functions: the data and the states are as before, and all functions that there were are there
pub record OnlyMakes (old new : HeldSession StageData) : Type 0 where
  pub core : new.core ≡ old.core
  pub makes : MakesMore old.stage.machine new.stage.machine

-- the letters of a formula were made, or there was no room for them
pub record IsFormulaMade (table : TableData) (formula : List Part) (old new : StageData) (made : Result Letters GraphFault) : Type 0 where
  pub makes : MakesMore old.machine new.machine
  pub own : IfOk made (GivesLetters new)
  pub letter : IfOk made (λ given. (column : ℕ) → column < columns_on old →
      letter_given new given column ≡ state_of_truth (truth_of (named_in old table column) formula))
  pub spent : IfErr made (IsSpent new.machine.maker)
