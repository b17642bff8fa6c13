-- What is held takes the step.
use Rattle.std.proofs.Common.{sym, subst}
use Rattle.switch_paths.specs.Step.{IsStep}
use Rattle.settling.specs.Passing.{SteppingThrough}
use Rattle.column_stage.specs.Seeing.{SeesStates}
use Rattle.fault_stage.specs.Stages.{FaultData, FitsIn, StaysOn, data_of, state_of}
use Rattle.fault_stage.proofs.stage.FaultStage.take_step.Goals as goal

pub step_held-requires : goal.step_held-requires
step_held-requires g c = record {
  well = c.self.invariant;
  fits = subst (λ (stage : FaultData). FitsIn stage c.args.graph.now) (sym c.self.view_is) c.requires.fits;
  knows = subst (λ (stage : FaultData). g.O.Observer.knows c.args.onlooker.now (state_of stage)) (sym c.self.view_is) c.requires.knows;
}

pub invariant_of-self : goal.invariant_of-self
invariant_of-self g c = c.step_held.ensures.well

pub returns-clause-step : goal.returns-clause-step
returns-clause-step g c =
    subst (λ (stage : FaultData). IsStep c.args.graph.now (state_of stage) (state_of (data_of c.step_held.new.held))) c.self.view_is c.step_held.ensures.step

pub returns-clause-stays : goal.returns-clause-stays
returns-clause-stays g c =
    subst (λ (stage : FaultData). StaysOn c.args.graph.now stage (data_of c.step_held.new.held)) c.self.view_is c.step_held.ensures.stays

pub returns-clause-seen : goal.returns-clause-seen
returns-clause-seen g c =
    subst (λ (stage : FaultData). SeesStates g.O.Observer.see (SteppingThrough c.args.graph.now 1 (state_of stage)) (state_of stage)
    (state_of (data_of c.step_held.new.held)) (g.O.Observer.seen c.args.onlooker.now) (g.O.Observer.seen c.step_held.new.onlooker)) c.self.view_is
    c.step_held.ensures.seen

pub returns-clause-knows : goal.returns-clause-knows
returns-clause-knows g c = c.step_held.ensures.knows
