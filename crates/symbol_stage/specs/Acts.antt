-- What an act does to the stage of a symbolic script.
use Rattle.column_stage.specs.Acts.{Act}
use Rattle.column_stage.specs.Moving.{MovesColumns}
use Rattle.column_stage.specs.Truths.{KeepsGiven}
use Rattle.symbol_stage.specs.Given.{GivesLetters, letter_given}
use Rattle.symbol_stage.specs.Stages.{StageData, bound_in, columns_on, states_in}

-- it does to the states of each column what it does to those of any, and all functions stay
pub record DidAct (act : Act) (old new : StageData) : Type 0 where
  pub moves : MovesColumns columns_on states_in act old new
  pub keeps : KeepsGiven columns_on GivesLetters letter_given bound_in old new
