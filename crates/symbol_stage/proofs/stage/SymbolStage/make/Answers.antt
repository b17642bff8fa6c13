-- What was built is what the build wants, or the gear is made and fits in each column; and where it couldn't be made, all serves that served.
use Rattle.std.proofs.Common.{true, Err, refl, ap}
use Rattle.std.proofs.lemmas.Bool.{OnTrue_at}
use Rattle.std.proofs.lemmas.Nat.{pow_pos}
use Rattle.analysis_cache.specs.Keeping.{texts_of}
use Rattle.truth_makers.specs.Makers.{columns_in, function_holds}
use Rattle.column_stage.specs.Columns.{AreSound}
use Rattle.symbol_stage.specs.Stages.{StageData, columns_on, spare_held, states_in}
use Rattle.symbol_stage.proofs.ColumnLemmas.{HasSound-columns, counted-columns}
use Rattle.symbol_stage.proofs.ServingLemmas.{builds_there, fits_there, serves_anew, serves_cut}
use Rattle.symbol_stage.proofs.stage.SymbolStage.make.Goals as goal

pub returns-then-is_built-clause-fits : goal.returns-then-is_built-clause-fits
returns-then-is_built-clause-fits g c =
    fits_there c.args.graph.now (texts_of c.args.kept.now) c.args.self.now c.requires.serves (OnTrue_at c.if-is_built.true c.is_built.ensures.built)

pub returns-then-is_built-clause-builds : goal.returns-then-is_built-clause-builds
returns-then-is_built-clause-builds g c =
    builds_there c.args.graph.now (texts_of c.args.kept.now) c.args.self.now c.requires.serves (OnTrue_at c.if-is_built.true c.is_built.ensures.built)
    c.args.kept.now.bound (g.A.Analyst.analysed c.args.analyst.now) (OnTrue_at c.if-is_built.true c.is_built.ensures.unbounded)

pub fit-requires : goal.fit-requires
fit-requires g c =
    let m = c.self.inside.machine in
    let old : StageData = record { machine = m; built = c.self.inside.built; spare = spare_held c.self.inside.room } in
    let sound : AreSound c.args.graph.now (columns_on old) (states_in old) = rw (← c.self.view_is) at c.requires.sound in
    let are = c.are_rails.ensures.columns in
    record {
      gear = rw (← c.self.view_is) at c.in_ok-gear.ensures.gear;
      counted = counted-columns c.args.graph.now (columns_in m.maker) (function_holds m.maker) m.hi m.lo are sound (pow_pos m.maker.graph.variables);
      sound = HasSound-columns c.args.graph.now (columns_in m.maker) (function_holds m.maker) m.hi m.lo are sound;
    }

pub returns-clause-fits : goal.returns-clause-fits
returns-clause-fits g c = c.fit.ensures.fits

pub returns-clause-serves : goal.returns-clause-serves
returns-clause-serves g c =
    let new : StageData = record { machine = c.fit.new.self; built = true; spare = 0 } in
    serves_anew c.args.graph.now new c.fit.ensures.fits c.args.kept.now.bound _ _ _ _ c.in_ok-gear.fresh c.in_ok-gear.ensures.builds

pub returns-clause-maker : goal.returns-clause-maker
returns-clause-maker g c = rw (← c.self.view_is) c.fit.ensures.maker

pub returns-clause-highs : goal.returns-clause-highs
returns-clause-highs g c = rw (← c.self.view_is) c.fit.ensures.highs

pub returns-clause-lows : goal.returns-clause-lows
returns-clause-lows g c = rw (← c.self.view_is) c.fit.ensures.lows

pub returns-in_err-gear-clause-serves : goal.returns-in_err-gear-clause-serves
returns-in_err-gear-clause-serves g c =
    serves_cut c.args.graph.now c.args.self.now c.args.self.now refl (λ fits. fits) c.args.kept.now c.gear_of.new.kept _ _ _ c.requires.serves
    c.in_err-gear.ensures.refused (λ is. c.in_err-gear.ensures.cut_off (ap Err is))
