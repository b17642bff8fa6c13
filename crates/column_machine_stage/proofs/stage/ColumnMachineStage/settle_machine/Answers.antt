use Rattle.std.proofs.Common.{◌≡◌, ℕ, ◌<◌, None, Some, refl, sym, ap, subst, ◌∙◌}
use Rattle.column_machines.specs.declared.column_machine.ColumnMachine.{ColumnMachine}
use Rattle.column_machines.specs.Moving.{columns_of, FitsInColumns}
use Rattle.column_machine_stage.specs.Stages.{StageData, machine_held}
use Rattle.column_machine_stage.proofs.stage.ColumnMachineStage.settle_machine.Goals as goal
use Rattle.column_machine_stage.proofs.stage.ColumnMachineStage.settle_machine.Goals.{in-Built, in_default}

pub returns-clause-moves : goal.returns-clause-moves
returns-clause-moves c = λ past.
    let graph = c.args.graph.now in
    elim c.match-self.branch [
      | in-Built w ↦
          let found : Some w.in-Built.machine ≡ Some c.requires.fits.machine =
          sym (ap machine_held w.in-Built.is) ∙ ap (λ (stage : StageData). stage.machine) c.self.view_is ∙ c.requires.fits.there in
          let same : c.requires.fits.machine ≡ w.in-Built.machine = cc in
          let fits : FitsInColumns graph w.in-Built.machine = subst (λ (machine : ColumnMachine). FitsInColumns graph machine) same c.requires.fits.fits in
          let columns : columns_of w.in-Built.machine ≡ c.self.inside.columns = rw w.in-Built.is at c.self.invariant.same in
          rw (w.self-inside-is, w.counts-is, ← c.self.view_is) (record {
            columns = refl;
            each = λ column inside. rw w.in-Built.is (w.settle.ensures.settles fits column past (subst (λ (n : ℕ). column < n) (sym columns) inside));
            fits = record { machine = w.settle.new.self; there = refl; fits = w.settle.ensures.fits fits };
            kind = rw w.in-Built.is w.settle.ensures.kind;
          })
      | in_default w ↦
          let none : None ≡ Some c.requires.fits.machine =
          sym (ap machine_held w.in_default.is) ∙ ap (λ (stage : StageData). stage.machine) c.self.view_is ∙ c.requires.fits.there in
          absurd (cc)
    ]
