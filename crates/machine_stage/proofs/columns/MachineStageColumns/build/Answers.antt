-- The machine that was there serves with the table alone; after the build, and after a refusal, the stage serves with what is kept then.
use Rattle.analysis_cache.specs.Keeping.{texts_of}
use Rattle.machine_stage.proofs.ServingLemmas.{fits_built, last_made, serves-table, serves_made}
use Rattle.machine_stage.proofs.columns.MachineStageColumns.build.Goals as goal

pub make-requires-clause-serves : goal.make-requires-clause-serves
make-requires-clause-serves g c = serves-table _ _ (texts_of c.args.kept.now) c.args.self.now.machine c.requires.last c.requires.serves

pub returns-clause-fits : goal.returns-clause-fits
returns-clause-fits g c = fits_built c.args.large c.args.graph.now c.args.self.now c.make.new.self c.make.result c.make.ensures.built

pub returns-clause-serves : goal.returns-clause-serves
returns-clause-serves g c =
    serves_made c.args.large c.args.graph.now c.args.self.now c.make.new.self _ c.args.kept.now c.make.new.kept _ _ c.make.result c.requires.serves
    c.make.ensures.built c.make.ensures.builds c.make.ensures.err c.make.ensures.grown

pub returns-clause-last : goal.returns-clause-last
returns-clause-last g c =
    last_made c.args.large c.args.graph.now c.args.self.now c.make.new.self c.args.kept.now c.make.new.kept c.make.result c.requires.last
    c.make.ensures.last c.make.ensures.err c.make.ensures.grown
