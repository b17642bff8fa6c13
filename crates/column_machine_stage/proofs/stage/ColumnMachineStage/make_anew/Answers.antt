-- The machine that is there is what the build wants, or one is made; and where none could be made, the one that was there serves still.
use Rattle.std.proofs.Common.{Err, ap}
use Rattle.std.proofs.lemmas.Bool.{OnTrue_at}
use Rattle.analysis_cache.specs.Keeping.{texts_of}
use Rattle.column_machine_stage.proofs.ServingLemmas.{builds_there, front_anew, front_there, last_anew, last_there, made_anew, made_there, serves_anew, serves_cut}
use Rattle.column_machine_stage.proofs.stage.ColumnMachineStage.make_anew.Goals as goal

pub returns-then-is_made-clause-made : goal.returns-then-is_made-clause-made
returns-then-is_made-clause-made g c =
    made_there c.args.large c.args.graph.now c.args.self.now (texts_of c.args.kept.now) (OnTrue_at c.if-is_made.true c.is_made.ensures.there) c.requires.turns
    (OnTrue_at c.if-is_made.true c.is_made.ensures.large) c.requires.serves

pub returns-then-is_made-clause-builds : goal.returns-then-is_made-clause-builds
returns-then-is_made-clause-builds g c =
    builds_there c.args.large c.args.graph.now c.args.self.now (texts_of c.args.kept.now) (OnTrue_at c.if-is_made.true c.is_made.ensures.there) c.requires.turns
    (OnTrue_at c.if-is_made.true c.is_made.ensures.large) c.requires.serves
    c.args.kept.now.bound (g.A.Analyst.analysed c.args.analyst.now) (OnTrue_at c.if-is_made.true c.is_made.ensures.unbounded)

pub returns-then-is_made-clause-front : goal.returns-then-is_made-clause-front
returns-then-is_made-clause-front g c =
    front_there c.args.large c.args.graph.now c.args.self.now (texts_of c.args.kept.now) (OnTrue_at c.if-is_made.true c.is_made.ensures.there) c.requires.turns
    (OnTrue_at c.if-is_made.true c.is_made.ensures.large) c.requires.serves

pub returns-then-is_made-clause-last : goal.returns-then-is_made-clause-last
returns-then-is_made-clause-last g c =
    last_there c.args.large c.args.graph.now c.args.self.now (texts_of c.args.kept.now) (OnTrue_at c.if-is_made.true c.is_made.ensures.there) c.requires.turns
    (OnTrue_at c.if-is_made.true c.is_made.ensures.large) c.requires.serves

pub put-requires : goal.put-requires
put-requires g c = c.in_ok-machine.ensures.same.0

pub returns-clause-made : goal.returns-clause-made
returns-clause-made g c =
    made_anew c.args.large c.args.graph.now c.args.self.now c.put.new.self c.in_ok-machine.machine c.put.ensures.machine c.put.ensures.large
    c.in_ok-machine.ensures.fits c.in_ok-machine.ensures.same.1 c.in_ok-machine.ensures.same.2 c.put.ensures.columns c.put.ensures.hi c.put.ensures.lo

pub returns-clause-serves : goal.returns-clause-serves
returns-clause-serves g c =
    serves_anew c.args.large c.args.graph.now c.args.self.now c.put.new.self c.in_ok-machine.machine c.put.ensures.machine c.put.ensures.large
    c.in_ok-machine.ensures.fits c.args.kept.now.bound _ _ _ _ c.in_ok-machine.fresh c.in_ok-machine.ensures.builds

pub returns-clause-front : goal.returns-clause-front
returns-clause-front g c =
    front_anew c.args.large c.args.graph.now c.args.self.now c.put.new.self c.in_ok-machine.machine c.put.ensures.machine c.put.ensures.large
    c.in_ok-machine.ensures.fits c.args.kept.now.bound _ _ _ _ c.in_ok-machine.fresh c.in_ok-machine.ensures.builds

pub returns-clause-last : goal.returns-clause-last
returns-clause-last g c =
    last_anew c.args.large c.args.graph.now c.args.self.now c.put.new.self c.in_ok-machine.machine c.put.ensures.machine c.put.ensures.large
    c.in_ok-machine.ensures.fits c.args.kept.now.bound _ _ _ _ c.in_ok-machine.fresh c.in_ok-machine.ensures.builds

pub returns-in_err-machine-clause-serves : goal.returns-in_err-machine-clause-serves
returns-in_err-machine-clause-serves g c =
    serves_cut c.args.large c.args.graph.now c.args.self.now c.args.kept.now c.machine_of.new.kept _ _ _ c.requires.turns c.requires.serves
    c.in_err-machine.ensures.refused (λ is. c.in_err-machine.ensures.cut_off (ap Err is))
