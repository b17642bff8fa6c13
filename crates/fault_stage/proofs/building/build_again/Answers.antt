-- Nothing is new, or a whole stage is built.
use Rattle.std.proofs.Common.{refl}
use Rattle.std.proofs.lemmas.Bool.{OnTrue_at}
use Rattle.analysis_cache.specs.Keeping.{texts_of}
use Rattle.fault_stage.specs.declared.held.Held.TheVariants as held
use Rattle.fault_stage.specs.Stages.{Ready, ready_of}
use Rattle.fault_stage.proofs.BuildingLemmas.{built_again}
use Rattle.fault_stage.proofs.FrontLemmas.{ready_cut}
use Rattle.fault_stage.proofs.HeldLemmas.{held_still, held_whole}
use Rattle.fault_stage.proofs.building.build_again.Goals as goal

pub returns-then-is_again : goal.returns-then-is_again
returns-then-is_again g c = record {
  well = c.requires.built;
  builds = built_again c.args.large c.args.graph.now c.args.kept.now.bound (ready_of c.args.built) (texts_of c.args.kept.now) _
      (OnTrue_at c.if-is_again.true c.is_again.ensures.unbounded) (OnTrue_at c.if-is_again.true c.is_again.ensures.large) c.requires.serves;
  bound = refl;
  refused = tt;
}

pub build_anew-requires : goal.build_anew-requires
build_anew-requires g c = rw c.deref.ensures.value c.requires.starts

pub returns-in-Ok : goal.returns-in-Ok
returns-in-Ok g c =
    held_whole c.args.large c.args.graph.now c.args.kept.now c.build_anew.new.kept _ _ (Ready (ready_of c.args.built)) refl c.in-Ok.stage c.in-Ok.fresh _
    c.deref.ensures.value c.in-Ok.ensures.made c.build_anew.ensures.leaves.bound

pub returns-in-Err : goal.returns-in-Err
returns-in-Err g c =
    held_still c.args.large c.args.graph.now c.args.kept.now c.build_anew.new.kept _ _ (held.Built c.args.built) c.build_anew.result c.in-Err.fault refl c.requires.built
    c.in-Err.is c.build_anew.ensures.leaves
    (ready_cut c.args.large c.args.graph.now (ready_of c.args.built) (texts_of c.args.kept.now) (texts_of c.build_anew.new.kept) _ _ c.requires.serves)
