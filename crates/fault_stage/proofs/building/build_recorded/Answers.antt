-- The machine was built, and its run begins; or nothing is there that wasn't.
use Rattle.std.proofs.Common.{None, length, refl, sym, ap, subst, ◌∙◌}
use Rattle.std.specs.Prelude.{All}
use Rattle.std.proofs.lemmas.List.Elements.{All-nil}
use Rattle.switch_paths.specs.Graphs.{GraphData}
use Rattle.analysis_cache.specs.Keeping.{texts_of}
use Rattle.edits_between.specs.Leading.{DifferAt}
use Rattle.fault_stage.specs.declared.held.Held.TheVariants as held
use Rattle.fault_stage.specs.Passing.{IsPassed}
use Rattle.fault_stage.specs.Stages.{Waits, wait_of}
use Rattle.fault_stage.proofs.BuildingLemmas.{front_built}
use Rattle.fault_stage.proofs.FrontLemmas.{none_in_front}
use Rattle.fault_stage.proofs.HeldLemmas.{held_ready, held_still}
use Rattle.fault_stage.proofs.KnownLemmas.{known_by_last}
use Rattle.fault_stage.proofs.building.build_recorded.Goals as goal

pub build-requires : goal.build-requires
build-requires g c = record {
  counted = rw c.deref.ensures.value c.requires.starts.sound.counted;
  railed = c.requires.starts.railed;
  sound = rw c.deref.ensures.value c.requires.starts.sound.sound;
}

pub returns-in-Ok : goal.returns-in-Ok
returns-in-Ok g c =
    let made = c.in-Ok.ensures in
    let state_is = made.fresh.0 ∙ c.deref.ensures.value in
    held_ready c.args.large c.args.graph c.args.kept.now c.build.new.kept _ _ (Waits (wait_of (record { state = c.args.state; last_run = None }))) refl _ c.in-Ok.fresh
    (record {
      counted = c.requires.starts.sound.counted;
      railed = c.requires.starts.railed;
      sound = c.requires.starts.sound.sound;
      known = known_by_last c.args.large c.args.graph c.args.kept.now.bound (texts_of c.args.kept.now) (texts_of c.build.new.kept) _ _ c.in-Ok.fresh c.in-Ok.machine
          made.fits made.last made.builds;
      goes = record {
        alone = record { fits = made.fits; state_is = state_is };
        graph = c.requires.begins.graph;
        known = ap length c.requires.begins.known ∙ sym (ap length state_is);
      };
      passes = subst (All (IsPassed c.args.graph)) (sym c.no_passes.ensures) (All-nil _);
      apart = subst (λ (way : GraphData). DifferAt c.args.graph way c.none.result) (sym c.requires.begins.graph) (c.none.ensures c.args.graph);
    }) refl refl refl made.builds
    (front_built c.args.large c.args.graph c.args.kept.now.bound (texts_of c.args.kept.now) (texts_of c.build.new.kept) _ _ c.in-Ok.fresh c.in-Ok.machine made.last made.builds)
    c.build.ensures.bound

pub returns-in-Err : goal.returns-in-Err
returns-in-Err g c =
    let made = c.build.ensures in
    held_still c.args.large c.args.graph c.args.kept.now c.build.new.kept _ _ (held.Waiting (record { state = c.args.state; last_run = None })) c.build.result
    c.in-Err.fault refl tt c.in-Err.is (record { cut_off = made.cut_off; bound = made.bound; refused = made.refused })
    (λ cut. none_in_front (texts_of c.build.new.kept))
