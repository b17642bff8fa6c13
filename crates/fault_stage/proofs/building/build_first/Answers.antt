-- The run is recorded if there is memory for the record; its graph is a copy.
use Rattle.std.proofs.Common.{None, sym, subst}
use Rattle.switch_paths.specs.Graphs.{GraphData}
use Rattle.analysis_cache.specs.Keeping.{texts_of}
use Rattle.good_phases.specs.Phases.{BeginsGood}
use Rattle.fault_stage.specs.Building.{BuildsHeld, IsStart}
use Rattle.fault_stage.specs.Stages.{Waits, wait_of}
use Rattle.fault_stage.proofs.FrontLemmas.{none_in_front}
use Rattle.fault_stage.proofs.building.build_first.Goals as goal

pub build_recorded-requires-clause-begins : goal.build_recorded-requires-clause-begins
build_recorded-requires-clause-begins g c =
    let begins = c.in-Ok.ensures in
    subst (λ (h : GraphData). BeginsGood h c.args.state.items c.in-Ok.good) (sym begins.own_is) (rw c.deref.ensures.value at begins.begins)

pub build_recorded-requires-clause-starts : goal.build_recorded-requires-clause-starts
build_recorded-requires-clause-starts g c = subst (λ (h : GraphData). IsStart h c.args.state.items) (sym c.in-Ok.ensures.own_is) c.requires

pub returns-in-Ok : goal.returns-in-Ok
returns-in-Ok g c =
    subst (λ (h : GraphData). BuildsHeld c.args.large h (Waits (wait_of (record { state = c.args.state; last_run = None }))) c.build_recorded.result.0 c.args.kept.now
    c.build_recorded.new.kept (g.A.Analyst.analysed c.args.analyst.now) (g.A.Analyst.analysed c.build_recorded.new.analyst) c.build_recorded.result.1)
    c.in-Ok.ensures.own_is c.build_recorded.ensures

pub build_in_place-requires-clause-starts : goal.build_in_place-requires-clause-starts
build_in_place-requires-clause-starts g c = c.requires

pub build_in_place-requires-clause-front : goal.build_in_place-requires-clause-front
build_in_place-requires-clause-front g c = none_in_front (texts_of c.args.kept.now)
