-- A stage that holds on to nothing puts them there; else there are none that aren't.
use Rattle.std.proofs.Common.{◌≡◌, sym, ap, subst, ◌∙◌}
use Rattle.analysis_cache.specs.Keeping.{texts_of}
use Rattle.column_stage.specs.Columns.{AreAmong}
use Rattle.column_stage.proofs.FrontLemmas.{kept_alone}
use Rattle.fault_stage.specs.Stages.{FaultData, Plain, data_of, last_in}
use Rattle.fault_stage.proofs.stage.FaultStage.put_last.Goals as goal

pub use_last-requires : goal.use_last-requires
use_last-requires c =
    let is : c.args.self.now ≡ Plain c.in-Whole.stage = sym c.self.view_is ∙ ap data_of c.in-Whole.is in
    subst (λ (stage : FaultData). AreAmong (last_in stage) (texts_of c.args.kept.now)) is c.requires

pub returns-in-Whole-clause-kept : goal.returns-in-Whole-clause-kept
returns-in-Whole-clause-kept c = rw (← c.self.view_is, c.in-Whole.is) c.use_last.ensures.kept

pub returns-in-Built-clause-kept : goal.returns-in-Built-clause-kept
returns-in-Built-clause-kept c = rw (← c.self.view_is, c.in-Built.is) (kept_alone (texts_of c.args.kept.now))

pub returns-in-Waiting-clause-kept : goal.returns-in-Waiting-clause-kept
returns-in-Waiting-clause-kept c = rw (← c.self.view_is, c.in-Waiting.is) (kept_alone (texts_of c.args.kept.now))
