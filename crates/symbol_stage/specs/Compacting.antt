-- Functions that another maker has in the place of those that there were.
use Rattle.std.specs.Prelude.{◌≡◌, ℕ, ◌<◌, List, length, All}
use Rattle.switch_paths.specs.Graphs.{GraphData}
use Rattle.decision_graph.specs.declared.vertex.Function.{Function}
use Rattle.decision_graph.specs.Graphs.{SameShape}
use Rattle.formula_functions.specs.Tables.{TableData}
use Rattle.truth_columns.specs.Columns.{values_in}
use Rattle.truth_makers.specs.declared.symbols.Symbols.{Symbols}
use Rattle.truth_makers.specs.Makers.{function_holds, IsFunctionOf}
use Rattle.symbol_stage.specs.Stages.{StageData, FitsIn, columns_on, states_in}

-- they are as many, functions of the other maker, which has the variables and the bound of the first, and each holds in each column where that did
-- in whose place it stands
pub record AreMoved (old new : Symbols) (truths made : List Function) : Type 0 where
  pub shape : SameShape old.graph new.graph
  pub counted : length made ≡ length truths
  pub inside : All (IsFunctionOf new) made
  pub same : (column : ℕ) → values_in (function_holds new) column made ≡ values_in (function_holds old) column truths

-- so are both rails of the nodes, and other functions
pub record IsMoved (old new : Symbols) (hi lo more new_hi new_lo found : List Function) : Type 0 where
  pub highs : AreMoved old new hi new_hi
  pub lows : AreMoved old new lo new_lo
  pub others : AreMoved old new more found

-- a stage goes on over another maker, or over its own, with what stands for functions outside: the names are as before and stand for functions that
-- hold where theirs held, and so do those of a list; in each column the states are as before, and what graph it fitted it fits still
pub record IsTidied (old new : StageData) (names later : TableData) (kept kept_later : List Function) : Type 0 where
  pub same_names : later.names ≡ names.names
  pub names_moved : AreMoved old.machine.maker new.machine.maker names.functions later.functions
  pub kept_moved : AreMoved old.machine.maker new.machine.maker kept kept_later
  pub states : (column : ℕ) → column < columns_on new → states_in new column ≡ states_in old column
  pub fits : (g : GraphData) → FitsIn old g → FitsIn new g
  pub built : new.built ≡ old.built
