use Rattle.std.proofs.Common.{sym, subst}
use Rattle.analysis_cache.specs.Keeping.{texts_of}
use Rattle.column_stage.specs.Columns.{AreAmong}
use Rattle.column_stage.proofs.FrontLemmas.{kept_alone}
use Rattle.column_machine_stage.specs.declared.stage.Held.{Held}
use Rattle.column_machine_stage.specs.Stages.{StageData, last_held, machine_held}
use Rattle.column_machine_stage.proofs.stage.ColumnMachineStage.put_last.Goals as goal

pub use_last-requires : goal.use_last-requires
use_last-requires c =
    subst (λ (held : Held). AreAmong (last_held (machine_held held)) (texts_of c.args.kept.now)) c.in-Built.is
    (subst (λ (s : StageData). AreAmong (last_held s.machine) (texts_of c.args.kept.now)) (sym c.self.view_is) c.requires)

pub returns-in-Built-clause-kept : goal.returns-in-Built-clause-kept
returns-in-Built-clause-kept c = rw (← c.self.view_is, c.in-Built.is) c.use_last.ensures.texts

pub returns-in-Still-clause-kept : goal.returns-in-Still-clause-kept
returns-in-Still-clause-kept c = rw (← c.self.view_is, c.in-Still.is) (kept_alone (texts_of c.args.kept.now))
