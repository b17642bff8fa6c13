-- The texts of the last build are the stage's.
use Rattle.fault_stage.proofs.columns.FaultStageColumns.use_last.Goals as goal

pub put_last-requires : goal.put_last-requires
put_last-requires c = c.requires

pub returns-clause-kept : goal.returns-clause-kept
returns-clause-kept c = c.put_last.ensures.kept
