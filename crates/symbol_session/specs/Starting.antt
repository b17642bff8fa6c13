-- The names of a session at its start: the script's variables, each of which stands for its variable.
use Rattle.std.specs.Prelude.{◌≡◌, ℕ, ◌<◌, Bool, true, false, List, [], ◌∷◌, ◌++◌, length, map, All}
use Rattle.std.specs.List.{range_with_len}
use Rattle.line_words.specs.Files as file
use Rattle.netlist.specs.Circuits.{CircuitData}
use Rattle.decision_graph.specs.declared.vertex.Function.{Function}
use Rattle.formula_functions.specs.Tables.{TableData, values_under}
use Rattle.symbol_lines.specs.Names.{has_name}
use Rattle.truth_makers.specs.declared.symbols.Symbols.{Symbols}
use Rattle.truth_makers.specs.Makers.{columns_in, IsFunctionOf}
use Rattle.session_meaning.specs.Sessions.{SessionData, start_of}
use Rattle.symbol_stage.specs.Stages.{StageData, columns_on, states_in}
use Rattle.symbol_meaning.specs.Readings.{Valuations, valuations_of}
use Rattle.symbol_meaning.specs.Scripts.{before_stop, read_of, stop_of}
use Rattle.symbol_equiv.specs.Sharing.{KeepsFunctions}
use Rattle.symbol_session.specs.Sessions.{ServesLines, SymbolData, missed_by, valuations_by}

-- none of these names is among those before it
abbrev pub AreApart : (before names : List (List ℕ)) → Type 0
AreApart before [] = Unit {0}
AreApart before (name ∷ names) = (has_name before name ≡ false) × AreApart (before ++ name ∷ []) names

-- the functions of a table are those of the first variables, so many, in order: under each valuation they have its truth values
pub record AreVariables (symbols : Symbols) (count : ℕ) (table : TableData) : Type 0 where
  pub inside : All (IsFunctionOf symbols) table.functions
  pub truths : (vars : ℕ → Bool) → values_under symbols.graph.vertices vars table.functions ≡ map vars (range_with_len 0 count)

-- a table has these names, which stand for the variables
pub record StandForVariables (symbols : Symbols) (variables : List (List ℕ)) (table : TableData) : Type 0 where
  pub names : table.names ≡ variables
  pub stand : AreVariables symbols (length variables) table

-- what is kept at the start: one function, which holds nowhere
pub record IsFirstKept (symbols : Symbols) (kept : List Function) : Type 0 where
  pub count : length kept ≡ 1
  pub inside : All (IsFunctionOf symbols) kept
  pub never : (column : ℕ) → column < columns_in symbols → missed_by symbols kept column ≡ false

-- a stage at its start over a maker: it has all functions that this had, nothing was built, and in each column the states are those of a start
pub record IsAtStart (symbols : Symbols) (circuit : CircuitData) (stage : StageData) : Type 0 where
  pub keeps : KeepsFunctions symbols stage.machine.maker
  pub shape : stage.machine.maker.graph.variables ≡ symbols.graph.variables
  pub unbuilt : stage.built ≡ false
  pub states : (column : ℕ) → column < columns_on stage → states_in stage column ≡ (start_of circuit).state

-- it is served from the start with the lines of any script that has its valuations
abbrev pub ServesAlike : SymbolData → Type 0
ServesAlike d = (text : List ℕ) → valuations_by d ≡ valuations_of (read_of d.quiet (file.cut_line text) (file.lines_in text)) →
    ServesLines d (file.cut_line text) (before_stop (stop_of d.quiet (file.cut_line text) (file.lines_in text)) (file.lines_in text))

-- what a quiet session is started of besides its maker: a circuit, and the text of a script
pub record StartData : Type 0 where
  pub circuit : CircuitData
  pub text : List ℕ

-- the data with which each column starts, and the script's valuations
abbrev pub data_at_start : StartData → SessionData
data_at_start start = start_of start.circuit

abbrev pub valuations_at_start : StartData → Valuations
valuations_at_start start = valuations_of (read_of true (file.cut_line start.text) (file.lines_in start.text))
