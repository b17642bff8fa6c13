-- The machine followed, or left its words, with its last texts in front of what is kept.
use Rattle.std.proofs.Common.{refl, sym, ap, ap₂, subst, ◌∙◌}
use Rattle.group_analysis.specs.Using.{used_texts}
use Rattle.analysis_cache.specs.Keeping.{KeptData, texts_of}
use Rattle.column_machines.specs.Moving.{last_in}
use Rattle.column_stage.specs.Columns.{AreAmong}
use Rattle.column_stage.proofs.FrontLemmas.{kept_alone, none_missing, same_among}
use Rattle.column_machine_stage.proofs.EditLemmas.{grows_edited, last_edited}
use Rattle.column_machine_stage.proofs.stage.edited.Goals as goal

pub returns-in-Ok-clause-grows : goal.returns-in-Ok-clause-grows
returns-in-Ok-clause-grows c = grows_edited c.args.graph.now c.args.change.now c.args.machine c.in-Ok.next c.in-Ok.ensures.edits

pub returns-in-Ok-clause-machine : goal.returns-in-Ok-clause-machine
returns-in-Ok-clause-machine c = (c.args.machine, refl, c.in-Ok.ensures.edits)

pub returns-in-Ok-clause-kept : goal.returns-in-Ok-clause-kept
returns-in-Ok-clause-kept c =
    ap₂ used_texts (last_edited c.args.graph.now c.args.change.now c.args.machine c.in-Ok.next c.in-Ok.ensures.edits)
    (ap (λ (kept : KeptData). texts_of kept) c.in-Ok.ensures.kept)

pub returns-in-Ok-clause-last : goal.returns-in-Ok-clause-last
returns-in-Ok-clause-last c =
    subst (λ (kept : KeptData). AreAmong (last_in c.in-Ok.next) (texts_of kept)) (sym c.in-Ok.ensures.kept)
    (same_among (last_in c.args.machine) (last_in c.in-Ok.next) (texts_of c.args.kept.now)
    (last_edited c.args.graph.now c.args.change.now c.args.machine c.in-Ok.next c.in-Ok.ensures.edits) c.requires.last)

pub returns-in-Err-clause-grows : goal.returns-in-Err-clause-grows
returns-in-Err-clause-grows c = record { each = c.in-Err.ensures.rails.each; columns_are = c.in-Err.ensures.rails.columns_are; same = tt }

pub returns-in-Err-clause-kept : goal.returns-in-Err-clause-kept
returns-in-Err-clause-kept c = sym (kept_alone (texts_of c.edit.new.kept)) ∙ c.in-Err.ensures.gone

pub returns-in-Err-clause-last : goal.returns-in-Err-clause-last
returns-in-Err-clause-last c = none_missing (texts_of c.edit.new.kept)
