-- A whole stage is built, or it waits as before.
use Rattle.std.proofs.Common.{refl}
use Rattle.analysis_cache.specs.Keeping.{texts_of}
use Rattle.fault_stage.specs.declared.held.Held.TheVariants as held
use Rattle.fault_stage.specs.Stages.{Waits, texts_held, wait_of}
use Rattle.fault_stage.proofs.FrontLemmas.{front_cut}
use Rattle.fault_stage.proofs.HeldLemmas.{held_still, held_whole}
use Rattle.fault_stage.proofs.building.build_in_place.Goals as goal

pub build_anew-requires : goal.build_anew-requires
build_anew-requires g c = rw c.deref.ensures.value c.requires.starts

pub returns-in-Ok : goal.returns-in-Ok
returns-in-Ok g c =
    held_whole c.args.large c.args.graph.now c.args.kept.now c.build_anew.new.kept _ _
    (Waits (wait_of (record { state = c.args.state; last_run = c.args.last_run }))) refl c.in-Ok.stage c.in-Ok.fresh _
    c.deref.ensures.value c.in-Ok.ensures.made c.build_anew.ensures.leaves.bound

pub returns-in-Err : goal.returns-in-Err
returns-in-Err g c =
    held_still c.args.large c.args.graph.now c.args.kept.now c.build_anew.new.kept _ _
    (held.Waiting (record { state = c.args.state; last_run = c.args.last_run })) c.build_anew.result c.in-Err.fault refl c.requires.last_run
    c.in-Err.is c.build_anew.ensures.leaves
    (front_cut c.args.large c.args.graph.now (texts_held c.args.last_run) (texts_of c.args.kept.now) (texts_of c.build_anew.new.kept) _ _ c.requires.front)
