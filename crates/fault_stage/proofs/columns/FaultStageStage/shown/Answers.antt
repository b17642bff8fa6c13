-- The one column is shown.
use Rattle.std.proofs.Common.{refl}
use Rattle.fault_stage.proofs.columns.FaultStageStage.shown.Goals as goal

pub returns-clause-value : goal.returns-clause-value
returns-clause-value c = (tt, c.states.ensures)

pub returns-clause-there : goal.returns-clause-there
returns-clause-there c = λ shows. refl
