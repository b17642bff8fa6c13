-- The stage starts in a copy of the state, and is built as ever.
use Rattle.std.proofs.Common.{inl, refl, sym, ap, subst, ◌∙◌, arith}
use Rattle.std.proofs.lemmas.Result.{err_from_is_err_and}
use Rattle.analysis_cache.specs.Keeping.{texts_of}
use Rattle.column_stage.specs.Columns.{IsSoundState}
use Rattle.column_stage.proofs.FrontLemmas.{none_missing, same_among}
use Rattle.machine_stage.specs.Machines as whole
use Rattle.machine_stage.specs.Machines.{StageData}
use Rattle.fault_stage.proofs.BuildingLemmas.{built_from_start, cut_from_start}
use Rattle.fault_stage.proofs.HeldLemmas.{leaves_done, leaves_undone}
use Rattle.fault_stage.proofs.building.build_anew.Goals as goal

pub returns-in_err-copy-clause-leaves : goal.returns-in_err-copy-clause-leaves
returns-in_err-copy-clause-leaves g c =
    let told = err_from_is_err_and c.from_residual.result c.from_residual.ensures.1 in
    record { cut_off = λ is. inl (refl, refl); bound = refl; refused = rw told.1 (inl told.2) }

pub build-requires-clause-railed : goal.build-requires-clause-railed
build-requires-clause-railed g c = c.requires.railed

pub build-requires-clause-sound : goal.build-requires-clause-sound
build-requires-clause-sound g c = λ column inside.
    subst (IsSoundState c.args.graph.now) (sym (c.still-stage.ensures.state ∙ c.in_ok-copy.ensures.items)) c.requires.sound

pub build-requires-clause-serves : goal.build-requires-clause-serves
build-requires-clause-serves g c = c.still-stage.ensures.serves _ _

pub build-requires-clause-last : goal.build-requires-clause-last
build-requires-clause-last g c = same_among _ _ (texts_of c.args.kept.now) c.still-stage.ensures.last (none_missing (texts_of c.args.kept.now))

pub returns-in-Ok-clause-made : goal.returns-in-Ok-clause-made
returns-in-Ok-clause-made g c =
    built_from_start c.args.large c.args.graph.now c.args.kept.now.bound c.args.state.now c.still-stage.result c.build.new.self (texts_of c.args.kept.now)
    (texts_of c.build.new.kept) _ _ c.in-Ok.fresh c.still-stage.ensures.last (c.still-stage.ensures.state ∙ c.in_ok-copy.ensures.items) c.in-Ok.ensures.fits
    c.build.ensures.serves (c.build.ensures.states 0 (omega arith)) c.in-Ok.ensures.builds c.build.ensures.last

pub returns-in-Ok-clause-leaves : goal.returns-in-Ok-clause-leaves
returns-in-Ok-clause-leaves g c = leaves_done c.args.large c.args.graph.now c.args.kept.now c.build.new.kept _ _ _ c.build.ensures.bound

pub returns-in-Err-clause-leaves : goal.returns-in-Err-clause-leaves
returns-in-Err-clause-leaves g c =
    leaves_undone c.args.large c.args.graph.now c.args.kept.now c.build.new.kept _ _ c.build.result c.in-Err.fault c.in-Err.is c.build.ensures.bound
    (λ lacks. cut_from_start c.args.large c.args.graph.now (whole.last_in c.still-stage.result.machine) (whole.last_in c.build.new.self.machine)
    (texts_of c.args.kept.now) (texts_of c.build.new.kept) _ _ c.still-stage.ensures.last
    (ap (λ (stage : StageData). whole.last_in stage.machine) c.in-Err.ensures.err) (c.build.ensures.cut_off lacks)) c.in-Err.ensures.refused
