-- The laws of groups on which two runs agree.
use Rattle.run_beside.proofs.AgreeingGroups.{respond_alike, move_alike, unlisted_alike, inputs_alike}
use Rattle.run_beside.proofs.laws.agreeing_groups_move_alike.Goals as goal

pub returns : goal.returns
returns c = record { responds = respond_alike; moves = move_alike; unlisted = unlisted_alike; inputs = inputs_alike }
