-- There is a machine, and its step is the stage's.
use Rattle.std.proofs.Common.{ap}
use Rattle.machine_stage.specs.Held.{machine_held}
use Rattle.machine_stage.specs.Machines.{StageData}
use Rattle.machine_stage.proofs.RoomLemmas.{alone_fits, held_fits, held_moves, step-told}
use Rattle.machine_stage.proofs.stage.MachineStage.step_machine.Goals as goal
use Rattle.machine_stage.proofs.stage.MachineStage.step_machine.Goals.{in-Built, in-Still}

pub take_step-requires-clause-fits : goal.take_step-requires-clause-fits
take_step-requires-clause-fits g c =
    held_fits c.args.graph.now c.in-Built.machine _ _ c.in-Built.is (ap (λ (stage : StageData). stage.machine) c.self.view_is) c.requires.fits

pub returns-clause-moves : goal.returns-clause-moves
returns-clause-moves g c =
    elim c.match-self.branch [
      | in-Built w ↦
          let step = w.take_step in
          rw (w.self-inside-is, ← c.self.view_is, w.in-Built.is)
          (held_moves _ w.in-Built.machine step.new.machine _ _ (step-told c.args.graph.now w.in-Built.machine step.new.machine step.ensures.takes))
      | in-Still w ↦
          absurd (alone_fits c.args.graph.now _ _ (ap machine_held w.in-Still.is) (ap (λ (stage : StageData). stage.machine) c.self.view_is) c.requires.fits)
    ]
