-- What is held follows the edit.
use Rattle.std.proofs.Common.{◌≡◌, ◌+◌, ◌<◌, ◌≤◌, ℕ, Option, length, sym, ap, subst, ◌∙◌}
use Rattle.std.specs.Prelude.{IfSome, IfNone}
use Rattle.switch_paths.specs.Graphs.{nodes}
use Rattle.channel_groups.specs.Changes.{undo}
use Rattle.group_analysis.specs.Using.{used_texts}
use Rattle.analysis_cache.specs.Keeping.{texts_of}
use Rattle.column_machines.specs.declared.column_machine.ColumnMachine.{ColumnMachine}
use Rattle.column_machines.specs.Columns.{column_states}
use Rattle.column_machines.specs.Moving.{columns_of, CanFollow}
use Rattle.column_machines.specs.Running.{AreColumns}
use Rattle.column_stage.specs.Columns.{AreAmong, with_new_nodes}
use Rattle.column_machine_stage.specs.declared.stage.Held.{Held}
use Rattle.column_machine_stage.specs.Stages.{EditsFrom, StageData, hi_held, last_held, lo_held, machine_held}
use Rattle.column_machine_stage.proofs.stage.ColumnMachineStage.follow.Goals as goal

pub followed-requires : goal.followed-requires
followed-requires c =
    let i = c.self.inside in
    let view = c.self.view_is in
    let graph = c.args.graph.now in
    let kept = texts_of c.args.kept.now in
    let count = c.count-columns.ensures.value in
    rw c.replace-held.ensures.value (record {
      few = c.count-columns.ensures.few;
      columns_are = subst (λ (s : StageData). AreColumns c.count-columns.result s.hi s.lo) (sym view)
          (subst (λ (n : ℕ). AreColumns n c.args.self.now.hi c.args.self.now.lo) (sym count) c.are_columns.ensures);
      same = subst (λ (n : ℕ). IfSome (machine_held i.held) (λ machine. columns_of machine ≡ n)) (ap (λ (s : StageData). s.columns) view ∙ sym count) c.self.invariant.same;
      covers = subst (λ (s : StageData). IfSome s.machine (CanFollow (undo graph c.args.change.now))) (sym view) c.requires.covers;
      wired = c.requires.wired;
      room = subst (λ (s : StageData). nodes graph ≤ length s.hi + s.spare) (sym view) c.requires.room;
      last = subst (λ (s : StageData). AreAmong (last_held s.machine) kept) (sym view) c.requires.last;
    })

pub invariant_of-self : goal.invariant_of-self
invariant_of-self c =
    let i = c.self.inside in
    let new = c.followed.result in
    let grows = c.followed.ensures.grows in
    let count : c.count-columns.result ≡ i.columns = c.count-columns.ensures.value ∙ sym (ap (λ (s : StageData). s.columns) c.self.view_is) in
    record {
      some = c.self.invariant.some;
      few = c.self.invariant.few;
      columns_are = subst (λ (n : ℕ). IfNone (machine_held new) (AreColumns n (hi_held new) (lo_held new))) count grows.columns_are;
      same = subst (λ (n : ℕ). IfSome (machine_held new) (λ machine. columns_of machine ≡ n)) count grows.same;
    }

pub returns-clause-states : goal.returns-clause-states
returns-clause-states c = λ column inside.
    let new = c.followed.result in
    let within : column < c.count-columns.result = subst (λ (n : ℕ). column < n) (sym c.count-columns.ensures.value) inside in
    subst (λ (s : StageData). column_states column (hi_held new) (lo_held new) ≡ with_new_nodes (column_states column s.hi s.lo) (nodes c.args.graph.now)) c.self.view_is
    (subst (λ (held : Held). column_states column (hi_held new) (lo_held new) ≡ with_new_nodes (column_states column (hi_held held) (lo_held held)) (nodes c.args.graph.now))
    c.replace-held.ensures.value (c.followed.ensures.grows.each column within))

pub returns-clause-machine : goal.returns-clause-machine
returns-clause-machine c =
    let was = ap machine_held c.replace-held.ensures.value ∙ ap (λ (s : StageData). s.machine) c.self.view_is in
    subst (λ (found : Option ColumnMachine). IfSome (machine_held c.followed.result) (EditsFrom c.args.graph.now c.args.change.now found)) was
    c.followed.ensures.machine

pub returns-clause-kept : goal.returns-clause-kept
returns-clause-kept c =
    c.followed.ensures.kept
    ∙ ap (λ (found : Option ColumnMachine). used_texts (last_held found) (texts_of c.args.kept.now))
    (ap machine_held c.replace-held.ensures.value ∙ ap (λ (s : StageData). s.machine) c.self.view_is)
