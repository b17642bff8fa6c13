-- Each act keeps them.
use Rattle.column_machine_stage.proofs.MovingLemmas.{columns_led}
use Rattle.column_machine_stage.proofs.laws.acts_keep_columns.Goals as goal

pub returns : goal.returns
returns c = columns_led
