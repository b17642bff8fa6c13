-- Where room is taken the states stay, and what machine stays serves.
use Rattle.column_machine_stage.proofs.ServingLemmas.{serves_roomed}
use Rattle.column_machine_stage.proofs.columns.ColumnMachineStageColumns.reserve.Goals as goal

pub returns-clause-columns : goal.returns-clause-columns
returns-clause-columns c = c.take_room.ensures.same.columns

pub returns-clause-states : goal.returns-clause-states
returns-clause-states c = c.take_room.ensures.same.each

pub returns-clause-serves : goal.returns-clause-serves
returns-clause-serves c = λ g kept serves.
    serves_roomed g kept c.args.self.now c.take_room.new.self c.take_room.ensures.machine c.take_room.ensures.large serves

pub returns-clause-did : goal.returns-clause-did
returns-clause-did c = c.take_room.ensures.same
