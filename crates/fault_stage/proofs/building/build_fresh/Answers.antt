-- The machine was built, and goes by itself.
use Rattle.analysis_cache.specs.Keeping.{texts_of}
use Rattle.fault_stage.proofs.BuildingLemmas.{front_built}
use Rattle.fault_stage.proofs.HeldLemmas.{leaves_done, leaves_undone}
use Rattle.fault_stage.proofs.KnownLemmas.{known_by_last}
use Rattle.fault_stage.proofs.building.build_fresh.Goals as goal

pub build-requires : goal.build-requires
build-requires g c = record { counted = c.requires.sound.counted; railed = c.requires.railed; sound = c.requires.sound.sound }

pub returns-in-Ok-clause-made : goal.returns-in-Ok-clause-made
returns-in-Ok-clause-made g c = λ good.
    let made = c.in-Ok.ensures in record {
      goes = record { fits = made.fits; state_is = made.fresh.0 };
      known = known_by_last c.args.large c.args.graph.now c.args.kept.now.bound (texts_of c.args.kept.now) (texts_of c.build.new.kept) _ _ c.in-Ok.fresh c.in-Ok.made
          made.fits made.last made.builds;
      front = front_built c.args.large c.args.graph.now c.args.kept.now.bound (texts_of c.args.kept.now) (texts_of c.build.new.kept) _ _ c.in-Ok.fresh c.in-Ok.made
          made.last made.builds;
      builds = made.builds;
    }

pub returns-in-Ok-clause-leaves : goal.returns-in-Ok-clause-leaves
returns-in-Ok-clause-leaves g c = leaves_done c.args.large c.args.graph.now c.args.kept.now c.build.new.kept _ _ _ c.build.ensures.bound

pub returns-in-Err-clause-leaves : goal.returns-in-Err-clause-leaves
returns-in-Err-clause-leaves g c =
    leaves_undone c.args.large c.args.graph.now c.args.kept.now c.build.new.kept _ _ c.build.result c.in-Err.fault c.in-Err.is c.build.ensures.bound
    c.build.ensures.cut_off c.in-Err.ensures.refused
