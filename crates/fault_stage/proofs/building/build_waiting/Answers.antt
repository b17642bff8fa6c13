-- There was a run, or this is the first.
use Rattle.std.proofs.Common.{Option, refl, sym, ap, subst}
use Rattle.std.specs.Prelude.{◌-◌, IfSome, vec_capacity, vec_len}
use Rattle.analysis_cache.specs.Keeping.{texts_of}
use Rattle.fault_stage.specs.declared.waiting.LastRun.{LastRun}
use Rattle.fault_stage.specs.Runs.{IsLastRun}
use Rattle.fault_stage.specs.Stages.{StandInFront, texts_held}
use Rattle.fault_stage.proofs.HeldLemmas.{held_led}
use Rattle.fault_stage.proofs.building.build_waiting.Goals as goal

pub returns-in-None : goal.returns-in-None
returns-in-None g c =
    let state = c.args.waiting.state in
    held_led c.args.large c.args.graph.now c.args.graph.now state.items (vec_capacity state - vec_len state) _ _ _ _ _ _ _ _ refl (ap texts_held (sym c.in-None.is))
    c.build_first.ensures

pub build_next-requires-clause-last_run : goal.build_next-requires-clause-last_run
build_next-requires-clause-last_run g c = subst (λ (found : Option LastRun). IfSome found IsLastRun) c.in-Some.is c.requires.last_run

pub build_next-requires-clause-front : goal.build_next-requires-clause-front
build_next-requires-clause-front g c =
    subst (λ (found : Option LastRun). StandInFront (texts_held found) (texts_of c.args.kept.now)) c.in-Some.is c.requires.front

pub returns-in-Some : goal.returns-in-Some
returns-in-Some g c =
    let state = c.args.waiting.state in
    held_led c.args.large c.args.graph.now c.args.graph.now state.items (vec_capacity state - vec_len state) _ _ _ _ _ _ _ _ refl (ap texts_held (sym c.in-Some.is))
    c.build_next.ensures
