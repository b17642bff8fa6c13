-- What a node is given under all valuations: two functions of the variables, where it may be 1 and where it may be 0.
-- After Bryant, "Boolean Analysis of MOS Circuits", 1987.
use Rattle.std.specs.Prelude.{ℕ}
use Rattle.ternary.specs.declared.tern.Tern.{Tern}
use Rattle.truth_makers.specs.declared.symbols.Symbols.{Symbols}
use Rattle.truth_makers.specs.Makers.{columns_in, function_holds, IsFunctionOf}
use Rattle.truth_parts.specs.Columns.{HasStates, state_with}
use Rattle.symbol_stage.specs.Stages.{StageData}
use Rattle.symbol_stage.specs.declared.given.Letters.{Letters}

-- they are functions of a maker, one of which holds in each column
pub record AreLetters (symbols : Symbols) (given : Letters) : Type 0 where
  pub high : IsFunctionOf symbols given.hi
  pub low : IsFunctionOf symbols given.lo
  pub some : HasStates (columns_in symbols) (function_holds symbols) given.hi given.lo

-- the letter that they are in a column
abbrev pub letter_by : Symbols → Letters → ℕ → Tern
letter_by symbols given column = state_with (function_holds symbols given.hi column) (function_holds symbols given.lo column)

-- they are those of a stage's own maker
abbrev pub GivesLetters : StageData → Letters → Type 0
GivesLetters stage given = AreLetters stage.machine.maker given

-- and are this letter in a column of it
abbrev pub letter_given : StageData → Letters → ℕ → Tern
letter_given stage given column = letter_by stage.machine.maker given column
