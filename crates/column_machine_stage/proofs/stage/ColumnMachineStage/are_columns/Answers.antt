-- Where the words stand alone they are columns, and so are the machine's.
use Rattle.std.proofs.Common.{subst}
use Rattle.column_machine_stage.specs.Stages.{StageData}
use Rattle.column_machines.specs.Running.{AreColumns}
use Rattle.column_machine_stage.proofs.MovingLemmas.{columns_still, columns_built}
use Rattle.column_machine_stage.proofs.stage.ColumnMachineStage.are_columns.Goals as goal

pub returns-in-Still : goal.returns-in-Still
returns-in-Still c =
    subst (λ (s : StageData). AreColumns s.columns s.hi s.lo) c.self.view_is
    (columns_still c.self.inside.columns c.self.inside.held _ c.in-Still.is c.self.invariant.columns_are)

pub returns-in-Built : goal.returns-in-Built
returns-in-Built c =
    subst (λ (s : StageData). AreColumns s.columns s.hi s.lo) c.self.view_is
    (columns_built c.self.inside.columns c.self.inside.held _ c.in-Built.is c.columns-few.ensures.columns_are c.self.invariant.same)
