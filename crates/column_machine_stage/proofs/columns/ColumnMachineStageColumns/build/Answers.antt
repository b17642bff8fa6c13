-- The states are the same after a build and after a refusal.
use Rattle.column_machine_stage.proofs.ServingLemmas.{fits_made, same_made}
use Rattle.column_machine_stage.proofs.columns.ColumnMachineStageColumns.build.Goals as goal

pub returns-clause-fits : goal.returns-clause-fits
returns-clause-fits g c = fits_made c.args.large c.args.graph.now c.args.self.now c.make.new.self c.make.result c.make.ensures.made

pub returns-clause-columns : goal.returns-clause-columns
returns-clause-columns g c =
    (same_made c.args.large c.args.graph.now c.args.self.now c.make.new.self c.make.result c.make.ensures.made c.make.ensures.err).columns

pub returns-clause-states : goal.returns-clause-states
returns-clause-states g c =
    (same_made c.args.large c.args.graph.now c.args.self.now c.make.new.self c.make.result c.make.ensures.made c.make.ensures.err).each

pub returns-clause-did : goal.returns-clause-did
returns-clause-did g c = c.make.ensures.made
