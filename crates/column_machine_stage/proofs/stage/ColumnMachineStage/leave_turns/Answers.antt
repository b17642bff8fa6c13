-- The words are the same.
use Rattle.std.proofs.Common.{◌≡◌, Option, Some, sym, ap, ◌∙◌, subst}
use Rattle.std.specs.Prelude.{IfSome, IfNone}
use Rattle.column_machines.specs.declared.column_machine.ColumnMachine.{ColumnMachine}
use Rattle.column_machines.specs.Moving.{columns_of}
use Rattle.column_machines.specs.Running.{AreColumns}
use Rattle.column_machine_stage.specs.declared.stage.Held.{Held}
use Rattle.column_machine_stage.specs.Stages.{StageData, hi_held, last_held, lo_held, machine_held}
use Rattle.column_machine_stage.proofs.ServingLemmas.{kept_of}
use Rattle.column_machine_stage.proofs.stage.ColumnMachineStage.leave_turns.Goals as goal

pub invariant_of-self : goal.invariant_of-self
invariant_of-self c =
    let i = c.self.inside in
    let made = c.without_turns.ensures in
    let was : c.replace-held.result ≡ i.held = c.replace-held.ensures.value in
    let same : IfSome (machine_held c.replace-held.result) (λ machine. columns_of machine ≡ i.columns) =
    subst (λ (held : Held). IfSome (machine_held held) (λ machine. columns_of machine ≡ i.columns)) (sym was) c.self.invariant.same in
    record {
      some = c.self.invariant.some;
      few = c.self.invariant.few;
      columns_are = made.columns_are i.columns same
          (subst (λ (held : Held). IfNone (machine_held held) (AreColumns i.columns (hi_held held) (lo_held held))) (sym was)
          c.self.invariant.columns_are);
      same = kept_of (λ (machine : ColumnMachine). columns_of machine ≡ i.columns) (machine_held c.replace-held.result) (machine_held c.without_turns.result) made.machine same;
    }

pub returns-clause-hi : goal.returns-clause-hi
returns-clause-hi c = c.without_turns.ensures.hi ∙ ap hi_held c.replace-held.ensures.value ∙ ap (λ (s : StageData). s.hi) c.self.view_is

pub returns-clause-lo : goal.returns-clause-lo
returns-clause-lo c = c.without_turns.ensures.lo ∙ ap lo_held c.replace-held.ensures.value ∙ ap (λ (s : StageData). s.lo) c.self.view_is

pub returns-clause-machine : goal.returns-clause-machine
returns-clause-machine c =
    let was = ap machine_held c.replace-held.ensures.value ∙ ap (λ (s : StageData). s.machine) c.self.view_is in
    subst (λ (found : Option ColumnMachine). IfSome (machine_held c.without_turns.result) (λ machine. found ≡ Some machine)) was c.without_turns.ensures.machine

pub returns-clause-last : goal.returns-clause-last
returns-clause-last c =
    c.without_turns.ensures.last
    ∙ ap (λ (held : Held). last_held (machine_held held)) c.replace-held.ensures.value ∙ ap (λ (s : StageData). last_held s.machine) c.self.view_is
