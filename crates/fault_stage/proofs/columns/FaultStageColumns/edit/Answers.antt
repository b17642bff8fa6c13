-- In the one column the state is the stage's.
use Rattle.std.proofs.Common.{arith}
use Rattle.fault_stage.proofs.columns.FaultStageColumns.edit.Goals as goal

pub follow-requires-clause-before : goal.follow-requires-clause-before
follow-requires-clause-before c =
    let (before, undone, sound, room, serves) = c.requires.before in
    (before, undone, sound 0 (omega arith), room, serves)

pub returns-clause-states : goal.returns-clause-states
returns-clause-states c = λ column inside. c.follow.ensures.edits.state

pub returns-clause-kept : goal.returns-clause-kept
returns-clause-kept c = c.follow.ensures.edits.kept_is

pub returns-clause-last : goal.returns-clause-last
returns-clause-last c = c.follow.ensures.edits.last

pub returns-clause-serves : goal.returns-clause-serves
returns-clause-serves c = c.follow.ensures.edits.serves
