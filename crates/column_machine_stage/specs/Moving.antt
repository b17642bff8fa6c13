-- What an act does to a stage of columns is what it does to the states of each.
use Rattle.column_stage.specs.Acts.{Act, Reserved, Placed, Edited, Built, Stepped, Rested}
use Rattle.column_stage.specs.Moving.{MovesColumns}
use Rattle.column_machine_stage.specs.Stages.{StageData, columns_on, states_in}
use Rattle.column_machine_stage.specs.Acts.{DidAct}

pub moves_columns : (act : Act) (old new : StageData) → DidAct act old new → MovesColumns columns_on states_in act old new
moves_columns Reserved old new did = record { count = did.columns; each = did.each }
moves_columns (Placed g node letters) old new did = record { count = did.columns; each = did.each }
moves_columns (Edited g change) old new did = record { count = did.columns; each = did.each }
moves_columns (Built large g) old new did = record { count = did.same.columns; each = did.same.each }
moves_columns (Stepped g) old new did = record { count = did.columns; each = did.each }
moves_columns (Rested g limit counts) old new did = record { count = did.columns; each = did.each }
