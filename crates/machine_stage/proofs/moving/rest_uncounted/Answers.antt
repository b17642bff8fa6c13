use Rattle.machine_stage.proofs.RestLemmas.{steady_stays, steady_moves, steady_rests}
use Rattle.machine_stage.proofs.moving.rest_uncounted.Goals as goal

pub returns-clause-state : goal.returns-clause-state
returns-clause-state g c =
    steady_stays c.args.graph.now c.args.machine.now c.step_uncounted-changed.new.machine c.step_uncounted-changed.ensures.step c.requires.steady

pub returns-clause-moves : goal.returns-clause-moves
returns-clause-moves g c =
    steady_moves c.args.graph.now c.args.machine.now c.step_uncounted-changed.new.machine c.step_uncounted-changed.ensures.step c.requires.steady

pub returns-clause-rests : goal.returns-clause-rests
returns-clause-rests g c =
    steady_rests c.args.graph.now c.args.machine.now c.step_uncounted-changed.new.machine c.step_uncounted-changed.ensures.step c.requires.steady
