use Rattle.column_machine_stage.proofs.stage.ColumnMachineStage.is_together.Goals as goal

pub returns-in-Still-clause-no : goal.returns-in-Still-clause-no
returns-in-Still-clause-no c = rw (← c.self.view_is, c.in-Still.is) tt

pub returns-in-Built-clause-yes : goal.returns-in-Built-clause-yes
returns-in-Built-clause-yes c = rw (← c.self.view_is, c.in-Built.is) c.is_together.ensures.yes

pub returns-in-Built-clause-no : goal.returns-in-Built-clause-no
returns-in-Built-clause-no c = rw (← c.self.view_is, c.in-Built.is) c.is_together.ensures.no
