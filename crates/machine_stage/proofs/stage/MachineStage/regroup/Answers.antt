use Rattle.std.proofs.Common.{◌≡◌, ap, ◌∙◌}
use Rattle.analysis_cache.specs.Keeping.{texts_of}
use Rattle.machine_stage.specs.Machines.{StageData, last_in}
use Rattle.machine_stage.specs.declared.stage.Held.{Held}
use Rattle.machine_stage.specs.Held.{machine_held}
use Rattle.column_stage.proofs.FrontLemmas.{same_among}
use Rattle.machine_stage.proofs.stage.MachineStage.regroup.Goals as goal

pub regrouped-requires-clause-last : goal.regrouped-requires-clause-last
regrouped-requires-clause-last c =
    let same : last_in (machine_held c.replace-held.result) ≡ last_in c.args.self.now.machine =
    ap (λ (held : Held). last_in (machine_held held)) c.replace-held.ensures.value ∙ ap (λ (stage : StageData). last_in stage.machine) c.self.view_is in
    same_among _ _ (texts_of c.args.kept.now) same c.requires.last
