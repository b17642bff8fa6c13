-- A run began, or all parts are marked and the machine goes by itself.
use Rattle.std.proofs.Common.{length, sym, ap, subst, ◌∙◌}
use Rattle.switch_paths.specs.Rails.{IsSound}
use Rattle.machine_laws.specs.Machines.{MachineData}
use Rattle.beside_run.specs.Running.{Leaves}
use Rattle.beside_run.proofs.RunningLemmas.{begins_alone, begins_so, may_leave}
use Rattle.beside_run.proofs.starting.begin.Goals as goal

pub returns-in-Ok : goal.returns-in-Ok
returns-in-Ok c =
    begins_so c.args.good_graph.now c.args.run.now c.args.graph.now c.args.machine.now c.start.new.machine c.in-Ok.begun c.start.ensures.marks
    c.in-Ok.ensures.beside

pub leave-requires : goal.leave-requires
leave-requires c = record {
  fits = may_leave c.args.graph.now c.args.machine.now c.start.new.machine c.requires.fits c.start.ensures.marks;
  counted = sym (ap length (ap (λ (m : MachineData). m.state) c.start.ensures.marks.same ∙ c.requires.state));
  sound = subst IsSound c.requires.state c.requires.fits.sound;
}

pub returns-in-Err : goal.returns-in-Err
returns-in-Err c =
    begins_alone c.args.good_graph.now c.args.run.now c.args.graph.now c.args.machine.now c.start.new.machine c.leave.new.machine c.start.ensures.marks
    (subst (λ s. Leaves c.args.graph.now s c.start.new.machine c.leave.new.machine) (sym c.requires.state) c.leave.ensures)
