-- In the one column the state is the stage's.
use Rattle.fault_stage.proofs.columns.FaultStageColumns.reserve.Goals as goal

pub returns-clause-room : goal.returns-clause-room
returns-clause-room c = c.take_room.ensures.room

pub returns-clause-states : goal.returns-clause-states
returns-clause-states c = λ column inside. c.take_room.ensures.state

pub returns-clause-last : goal.returns-clause-last
returns-clause-last c = c.take_room.ensures.last

pub returns-clause-serves : goal.returns-clause-serves
returns-clause-serves c = c.take_room.ensures.serves
