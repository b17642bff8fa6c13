use Rattle.std.proofs.Common.{◌≡◌, ℕ, ◌<◌, None, Some, refl, sym, ap, subst, ◌∙◌}
use Rattle.column_machines.specs.declared.column_machine.ColumnMachine.{ColumnMachine}
use Rattle.column_machines.specs.Moving.{columns_of, FitsInColumns}
use Rattle.column_machine_stage.specs.Stages.{StageData, machine_held}
use Rattle.column_machine_stage.proofs.stage.ColumnMachineStage.step_machine.Goals as goal
use Rattle.column_machine_stage.proofs.stage.ColumnMachineStage.step_machine.Goals.{in-Built, in_default}

pub returns-clause-moves : goal.returns-clause-moves
returns-clause-moves c =
    let graph = c.args.graph.now in
    elim c.match-self.branch [
      | in-Built w ↦
          let found : Some w.in-Built.machine ≡ Some c.requires.machine =
          sym (ap machine_held w.in-Built.is) ∙ ap (λ (stage : StageData). stage.machine) c.self.view_is ∙ c.requires.there in
          let same : c.requires.machine ≡ w.in-Built.machine = cc in
          let fits : FitsInColumns graph w.in-Built.machine = subst (λ (machine : ColumnMachine). FitsInColumns graph machine) same c.requires.fits in
          let columns : columns_of w.in-Built.machine ≡ c.self.inside.columns = rw w.in-Built.is at c.self.invariant.same in
          rw (w.self-inside-is, ← c.self.view_is) (record {
            columns = refl;
            each = λ column inside. rw w.in-Built.is (w.step.ensures.step fits column (subst (λ (n : ℕ). column < n) (sym columns) inside));
            fits = record { machine = w.step.new.self; there = refl; fits = w.step.ensures.fits fits };
            kind = rw w.in-Built.is w.step.ensures.kind;
          })
      | in_default w ↦
          let none : None ≡ Some c.requires.machine =
          sym (ap machine_held w.in_default.is) ∙ ap (λ (stage : StageData). stage.machine) c.self.view_is ∙ c.requires.there in
          absurd (cc)
    ]
