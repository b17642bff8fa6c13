-- A session that obeys a symbolic script, as contracts see it: what its stage holds, the names that stand for functions, and what is kept besides. The
-- data of each column, the valuations, and the lines with which it is served are read off it.
use Rattle.std.specs.Prelude.{◌≡◌, ℕ, ◌+◌, ◌<◌, ◌≤◌, Bool, true, false, List, [], ◌∷◌, length, take, drop, All, Option}
use Rattle.ternary.specs.declared.tern.Tern.{Tern}
use Rattle.line_words.specs.Files as file
use Rattle.switch_paths.specs.Graphs.{nodes}
use Rattle.switch_paths.specs.Rails.{IsSound}
use Rattle.switch_paths.specs.declared.TheConstants.{RAILS}
use Rattle.decision_graph.specs.declared.vertex.Function.{Function}
use Rattle.formula_functions.specs.Tables.{TableData, values_under}
use Rattle.truth_makers.specs.declared.symbols.Symbols.{Symbols}
use Rattle.truth_makers.specs.Makers.{columns_in, function_holds, IsFunctionOf}
use Rattle.truth_makers.specs.Valuations.{valuation_of}
use Rattle.truth_parts.specs.Columns as columns
use Rattle.truth_parts.specs.Columns.{AreColumns}
use Rattle.session_meaning.specs.Sessions.{HeldSession, SessionData}
use Rattle.session_meaning.specs.Columns.{column_of}
use Rattle.symbol_lines.specs.Names.{NamesData}
use Rattle.symbol_meaning.specs.Readings.{Valuations, valuations_of}
use Rattle.symbol_meaning.specs.Scripts.{read_of}
use Rattle.symbol_stage.specs.Stages.{StageData, states_in}
use Rattle.symbol_outcomes.specs.Families.{data_in}
use Rattle.symbol_run.specs.Serving.{IsServed}

-- a name under which states are kept, with the number of their nodes
abbrev pub Save : Type 0
Save = List ℕ × ℕ

-- the session over the stage; the names, with their functions; the functions that are kept: first the one that holds where an expectation wasn't met,
-- and behind it, for each name under which states are kept, where its nodes may be 1 and where they may be 0; these names, each with the number of its
-- nodes; how many waveform lines there were; whether the script is quiet, and its text
pub record SymbolData : Type 0 where
  pub session : HeldSession StageData
  pub names : TableData
  pub kept : List Function
  pub saves : List Save
  pub count : ℕ
  pub quiet : Bool
  pub text : List ℕ

-- the maker of its functions
abbrev pub maker_of : SymbolData → Symbols
maker_of d = d.session.stage.machine.maker

-- ---- what is kept

-- whether an expectation wasn't met in a column: the first function holds there
abbrev pub missed_by : Symbols → List Function → ℕ → Bool
missed_by symbols [] column = false
missed_by symbols (own ∷ others) column = function_holds symbols own column

-- the rails of so many nodes, and what is behind them
abbrev pub highs_of : ℕ → List Function → List Function
highs_of n rails = take n rails

abbrev pub lows_of : ℕ → List Function → List Function
lows_of n rails = take n (drop n rails)

abbrev pub rest_of : ℕ → List Function → List Function
rest_of n rails = drop n (drop n rails)

-- their states in a column
abbrev pub states_kept : Symbols → ℕ → List Function → ℕ → List Tern
states_kept symbols n rails column = columns.states_in (function_holds symbols) column (highs_of n rails) (lows_of n rails)

-- the states that are kept in a column, under these names
abbrev pub saves_by : Symbols → List Save → List Function → ℕ → List (List ℕ × List Tern)
saves_by symbols [] rails column = []
saves_by symbols (own ∷ saves) rails column = (own.0, states_kept symbols own.1 rails column) ∷ saves_by symbols saves (rest_of own.1 rails) column

-- kept rails are those of states of no more nodes than there are, with Gnd and Vdd at theirs in each column
pub record IsKept (symbols : Symbols) (count n : ℕ) (kept : List Function) : Type 0 where
  pub few : n ≤ count
  pub railed : RAILS ≤ n
  pub counted : n + n ≤ length kept
  pub rails : AreColumns (columns_in symbols) (function_holds symbols) (highs_of n kept) (lows_of n kept)
  pub sound : (column : ℕ) → column < columns_in symbols → IsSound (states_kept symbols n kept column)

-- so are those of all names, and there are no others
abbrev pub AreKeptRails : Symbols → ℕ → List Save → List Function → Type 0
AreKeptRails symbols count [] rails = rails ≡ []
AreKeptRails symbols count (own ∷ saves) rails = IsKept symbols count own.1 rails × AreKeptRails symbols count saves (rest_of own.1 rails)

-- ---- columns

-- the data of each column
abbrev pub data_of : SymbolData → ℕ → SessionData
data_of d = data_in (column_of states_in d.session) (missed_by (maker_of d) d.kept) (saves_by (maker_of d) d.saves (drop 1 d.kept))

-- the valuations of the script
abbrev pub valuations_by : SymbolData → Valuations
valuations_by d = valuations_of (read_of d.quiet (file.cut_line d.text) (file.lines_in d.text))

-- the truth values of the names in a column
abbrev pub truths_by : SymbolData → ℕ → List Bool
truths_by d column = values_under (maker_of d).graph.vertices (valuation_of (maker_of d).graph.variables column) d.names.functions

-- it is served with the lines of its script that come now
abbrev pub ServesLines : SymbolData → Option ℕ → List (ℕ × List ℕ) → Type 0
ServesLines d cut lines = (own : NamesData) × IsServed d.quiet (valuations_by d) own d.names.names (truths_by d) cut lines

-- ---- what holds between calls

-- the maker has a column for each valuation; all functions are its own; what is kept are rails of states; and the waveform lines are counted
pub record IsSymbolSession (d : SymbolData) : Type 0 where
  pub shape : columns_in (maker_of d) ≡ (valuations_by d).columns
  pub named : All (IsFunctionOf (maker_of d)) d.names.functions
  pub inside : All (IsFunctionOf (maker_of d)) d.kept
  pub missed : 0 < length d.kept
  pub counted : d.count ≡ d.session.core.count
  pub saved : AreKeptRails (maker_of d) (nodes d.session.core.circuit.graph) d.saves (drop 1 d.kept)

-- what stays from line to line: the script, and the names with their truth values
pub record Stays (old new : SymbolData) : Type 0 where
  pub quiet : new.quiet ≡ old.quiet
  pub text : new.text ≡ old.text
  pub names : new.names.names ≡ old.names.names
  pub truths : (column : ℕ) → column < columns_in (maker_of old) → truths_by new column ≡ truths_by old column

-- a maker has a function that holds in each column
pub record HasTrue (symbols : Symbols) : Type 0 where
  pub function : Function
  pub inside : IsFunctionOf symbols function
  pub holds : (column : ℕ) → column < columns_in symbols → function_holds symbols function column ≡ true
