-- It shows no states.
use Rattle.column_machine_stage.proofs.columns.ColumnMachineStageStage.shown.Goals as goal

pub returns-clause-value : goal.returns-clause-value
returns-clause-value c = tt

pub returns-clause-there : goal.returns-clause-there
returns-clause-there c = λ shows. absurd shows
