-- What is held is finished.
use Rattle.std.proofs.Common.{sym, ap, ap₂, subst, ◌∙◌}
use Rattle.switch_paths.specs.Rails.{IsSound}
use Rattle.group_analysis.specs.Using.{used_texts}
use Rattle.analysis_cache.specs.Keeping.{texts_of}
use Rattle.column_machines.specs.Columns.{column_states}
use Rattle.column_machines.specs.Running.{AreColumns}
use Rattle.column_stage.specs.Columns.{AreAmong, AreSound}
use Rattle.column_machine_stage.specs.Stages.{StageData, ServesIn, IsTogetherIn, hi_held, last_held, lo_held, machine_held, states_in}
use Rattle.column_machine_stage.proofs.ServingLemmas.{builds_at, covers_served, known_served, columns_finished, made_finished, none_alone, same_on_err, sound_held}
use Rattle.column_machine_stage.proofs.stage.ColumnMachineStage.finish.Goals as goal

pub finish_in-requires : goal.finish_in-requires
finish_in-requires g c =
    let i = c.self.inside in
    let view = c.self.view_is in
    let graph = c.args.graph.now in
    let kept = texts_of c.args.kept.now in
    let serves = subst (λ (s : StageData). ServesIn s graph (used_texts (last_held s.machine) kept)) (sym view) c.requires.serves in
    let last = subst (λ (s : StageData). AreAmong (last_held s.machine) kept) (sym view) c.requires.last in
    let sound = subst (λ (s : StageData). AreSound graph s.columns (states_in s)) (sym view) c.requires.sound in
    record {
      together = subst (λ (s : StageData). IsTogetherIn s.machine) (sym view) c.requires.together;
      covers = covers_served i.large graph (used_texts (last_held (machine_held i.held)) kept) (machine_held i.held) serves;
      railed = c.requires.railed;
      sound = sound_held i.columns (machine_held i.held) (λ column. IsSound (column_states column (hi_held i.held) (lo_held i.held)))
          c.self.invariant.same
          (λ column inside. (sound column inside).sound);
      known = known_served i.large graph kept (machine_held i.held) last serves;
      last = last;
    }

pub invariant_of-self : goal.invariant_of-self
invariant_of-self g c =
    let i = c.self.inside in
    let new = c.finish_in.new.held in
    record {
      some = c.self.invariant.some;
      few = c.self.invariant.few;
      columns_are = none_alone (AreColumns i.columns (hi_held new) (lo_held new)) (machine_held new) c.finish_in.ensures.together;
      same = columns_finished i.columns (machine_held i.held) (machine_held new)
          (subst (λ (s : StageData). IsTogetherIn s.machine) (sym c.self.view_is) c.requires.together) c.finish_in.ensures.columns c.self.invariant.same;
    }

pub returns-clause-made : goal.returns-clause-made
returns-clause-made g c =
    let view = c.self.view_is in
    let done = c.finish_in.ensures in
    made_finished c.args.large c.args.graph.now c.args.self.now _ c.finish_in.result
    (record {
      columns = ap (λ (s : StageData). s.columns) view;
      each = λ column inside.
          ap₂ (column_states column) (done.hi ∙ ap (λ (s : StageData). s.hi) view) (done.lo ∙ ap (λ (s : StageData). s.lo) view);
    }) done.fits done.together

pub returns-clause-builds : goal.returns-clause-builds
returns-clause-builds g c = rw (← c.self.view_is) (builds_at c.args.large c.args.graph.now c.args.kept.now.bound _ _ _ _ c.finish_in.result c.finish_in.ensures.builds)

pub returns-clause-cut_off : goal.returns-clause-cut_off
returns-clause-cut_off g c = λ is. rw (← c.self.view_is) (c.finish_in.ensures.cut_off is c.args.large)

pub returns-clause-err : goal.returns-clause-err
returns-clause-err g c = rw (← c.self.view_is) (same_on_err c.self.inside.columns c.self.inside.large c.self.inside.held c.finish_in.new.held c.finish_in.result c.finish_in.ensures.err)
