-- The first column in which nodes aren't all as they are wanted.
use Rattle.std.specs.Prelude.{◌≡◌, ℕ, ◌<◌, Bool, true, false, List, length, slice_index_or, Option, Some, None, Result, Vec, All, IfErr, IfOk}
use Rattle.std.specs.List.{list_all}
use Rattle.std.specs.declared.alloc.Global.{Global}
use Rattle.ternary.specs.declared.tern.Tern.{Tern}
use Rattle.switch_paths.specs.Switching.{state_at}
use Rattle.vector_values.specs.Values.{Letter}
use Rattle.decision_graph.specs.Meaning.{assigned}
use Rattle.truth_makers.specs.declared.symbols.Symbols.{Symbols}
use Rattle.decision_graph.specs.declared.graph.GraphFault.{GraphFault}
use Rattle.truth_makers.specs.Makers.{IsSpent}
use Rattle.truth_makers.specs.Valuations.{column_of}
use Rattle.truth_machine.specs.Symbols.{MakesMore}
use Rattle.session_meaning.specs.Effects.{is_met}
use Rattle.symbol_stage.specs.Stages.{StageData, columns_on, states_in}
use Rattle.symbol_giving.specs.Letters.{pairs_in, IsLetterOf}
use Rattle.symbol_giving.specs.declared.letters.SymbolLetter.{SymbolLetter}
use Rattle.symbol_giving.specs.declared.letters.SymbolLetter.TheVariants.{Any}

-- each letter is met by its node's state
abbrev pub are_met : List Tern → List (ℕ × Letter) → Bool
are_met states letters = list_all (λ pair. is_met pair.1 (state_at states pair.0)) letters

-- in a column of a stage nodes are all as they are wanted
abbrev pub are_met_in : StageData → List (ℕ × SymbolLetter) → ℕ → Bool
are_met_in stage pairs column = are_met (states_in stage column) (pairs_in stage pairs column)

-- the nodes are the stage's, and what is wanted of them is of its functions
abbrev pub AreWantedOf : StageData → List (ℕ × SymbolLetter) → Type 0
AreWantedOf stage pairs = All (λ pair. (pair.0 < length stage.machine.hi) × IsLetterOf stage pair.1) pairs

-- the node at a place, with what is wanted of it
abbrev pub pair_of : List (ℕ × SymbolLetter) → ℕ → ℕ × SymbolLetter
pair_of pairs k = slice_index_or pairs k (0, Any)

-- the column of a valuation of the maker's variables
abbrev pub column_with : Symbols → List Bool → ℕ
column_with symbols vars = column_of (assigned vars) symbols.graph.variables

-- a stage's maker made more, and all else is as before
pub record MakesOn (old new : StageData) : Type 0 where
  pub makes : MakesMore old.machine new.machine
  pub built : new.built ≡ old.built

-- in the column of this valuation some node isn't as it is wanted, and before it all are
pub record IsMissedFirst (stage : StageData) (pairs : List (ℕ × SymbolLetter)) (vars : List Bool) : Type 0 where
  pub count : length vars ≡ stage.machine.maker.graph.variables
  pub inside : column_with stage.machine.maker vars < columns_on stage
  pub missed : are_met_in stage pairs (column_with stage.machine.maker vars) ≡ false
  pub met_before : (other : ℕ) → other < column_with stage.machine.maker vars → are_met_in stage pairs other ≡ true

-- in all columns all nodes are as they are wanted; or the valuation is that of the first in which they aren't
abbrev pub IsFirstMissed : StageData → List (ℕ × SymbolLetter) → Option (Vec Bool Global) → Type 0
IsFirstMissed stage pairs None = (column : ℕ) → column < columns_on stage → are_met_in stage pairs column ≡ true
IsFirstMissed stage pairs (Some vars) = IsMissedFirst stage pairs vars.items

-- it was looked for: the stage's maker made more, and perhaps could make no more
pub record IsSearched (old new : StageData) (pairs : List (ℕ × SymbolLetter)) (found : Result (Option (Vec Bool Global)) GraphFault) : Type 0 where
  pub makes : MakesOn old new
  pub spent : IfErr found (IsSpent new.machine.maker)
  pub first : IfOk found (IsFirstMissed new pairs)
