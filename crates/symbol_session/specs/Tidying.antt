-- What letting functions go does to a session, its names and the functions that are kept beside it.
use Rattle.std.specs.Prelude.{◌≡◌, ℕ, ◌<◌, List}
use Rattle.decision_graph.specs.declared.vertex.Function.{Function}
use Rattle.formula_functions.specs.Tables.{TableData}
use Rattle.session_meaning.specs.Sessions.{HeldSession}
use Rattle.symbol_stage.specs.Compacting.{AreMoved}
use Rattle.symbol_stage.specs.Stages.{StageData, columns_on, states_in}

-- the session's data and the states of all columns are as before; the names are, and other functions stand for them, for those that are kept and for
-- others, each of which holds where that held in whose place it stands
pub record AreTidied (old new : HeldSession StageData) (names later : TableData) (kept kept_later others others_later : List Function) : Type 0 where
  pub core : new.core ≡ old.core
  pub states : (column : ℕ) → column < columns_on old.stage → states_in new.stage column ≡ states_in old.stage column
  pub same_names : later.names ≡ names.names
  pub names_moved : AreMoved old.stage.machine.maker new.stage.machine.maker names.functions later.functions
  pub kept_moved : AreMoved old.stage.machine.maker new.stage.machine.maker kept kept_later
  pub others_moved : AreMoved old.stage.machine.maker new.stage.machine.maker others others_later
