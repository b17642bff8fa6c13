-- There is a machine, and its phase is the stage's.
use Rattle.std.proofs.Common.{ap}
use Rattle.machine_stage.specs.Held.{machine_held}
use Rattle.machine_stage.specs.Machines.{StageData}
use Rattle.machine_stage.proofs.RoomLemmas.{alone_fits, held_fits, held_moves, phase-told}
use Rattle.machine_stage.proofs.stage.MachineStage.settle_machine.Goals as goal
use Rattle.machine_stage.proofs.stage.MachineStage.settle_machine.Goals.{in-Built, in-Still}

pub settle_to_rest-requires-clause-fits : goal.settle_to_rest-requires-clause-fits
settle_to_rest-requires-clause-fits g c =
    held_fits c.args.graph.now c.in-Built.machine _ _ c.in-Built.is (ap (λ (stage : StageData). stage.machine) c.self.view_is) c.requires.fits

pub returns-clause-moves : goal.returns-clause-moves
returns-clause-moves g c =
    elim c.match-self.branch [
      | in-Built w ↦
          let settled = w.settle_to_rest in
          rw (w.self-inside-is, w.result-is, ← c.self.view_is, w.in-Built.is)
          (held_moves _ w.in-Built.machine settled.new.machine _ _
          (phase-told c.args.graph.now c.args.limit w.in-Built.machine settled.new.machine settled.result.steps settled.result.joined settled.ensures.takes))
      | in-Still w ↦
          absurd (alone_fits c.args.graph.now _ _ (ap machine_held w.in-Still.is) (ap (λ (stage : StageData). stage.machine) c.self.view_is) c.requires.fits)
    ]
