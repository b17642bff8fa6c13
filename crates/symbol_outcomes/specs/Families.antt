-- The data of the columns of a session that obeys a symbolic script.
use Rattle.std.specs.Prelude.{ℕ, ◌<◌, Bool, List}
use Rattle.ternary.specs.declared.tern.Tern.{Tern}
use Rattle.session_meaning.specs.Sessions.{IsReady, SessionData}
use Rattle.symbol_meaning.specs.Laws.{AlikeButStates}

-- the data of each column of a session, beside whether an expectation isn't met there and the states that are kept there
abbrev pub data_in : (ℕ → SessionData) → (ℕ → Bool) → (ℕ → List (List ℕ × List Tern)) → ℕ → SessionData
data_in columns missed saves column = record (columns column) { missed = missed column; saves = saves column }

-- the columns, one or more, are those of one session: in each the data are ready, and any two differ in states alone, those of nodes and those that are
-- kept, and in whether an expectation was not met. Of a number that is no column's nothing is said
pub record IsFamily (columns : ℕ) (sessions : ℕ → SessionData) : Type 0 where
  pub some : 0 < columns
  pub ready : (column : ℕ) → column < columns → IsReady (sessions column)
  pub alike : (one other : ℕ) → one < columns → other < columns → AlikeButStates (sessions one) (sessions other)
