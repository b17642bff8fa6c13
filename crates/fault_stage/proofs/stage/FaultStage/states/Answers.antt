-- The state is that of what is held.
use Rattle.fault_stage.proofs.stage.FaultStage.states.Goals as goal

pub returns-in-Whole : goal.returns-in-Whole
returns-in-Whole c = rw (← c.self.view_is, c.in-Whole.is) c.column.ensures.value

pub returns-in-Built : goal.returns-in-Built
returns-in-Built c = rw (← c.self.view_is, c.in-Built.is) c.deref.ensures.value

pub returns-in-Waiting : goal.returns-in-Waiting
returns-in-Waiting c = rw (← c.self.view_is, c.in-Waiting.is) c.deref-in-Waiting.ensures.value
