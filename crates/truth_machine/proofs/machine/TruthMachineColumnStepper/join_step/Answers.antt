-- In each column a joining step is the graph's joining step on a graph that the machine fits.
use Rattle.std.proofs.Common.{true, refl}
use Rattle.std.proofs.lemmas.Result.{IfOk-weaker}
use Rattle.truth_machine.specs.Moving.{Rests, StepsColumns}
use Rattle.truth_machine.proofs.MovingLemmas.{column-rests, on_fault, IsJoinStep-in_column}
use Rattle.truth_machine.proofs.machine.TruthMachineColumnStepper.join_step.Goals as goal

pub returns-clause-step : goal.returns-clause-step
returns-clause-step g c =
    IfOk-weaker c.step_on.result (StepsColumns g.T.Truths.columns g.T.Truths.holds true c.args.self.now c.step_on.new.self) _
    (λ moved steps. λ fits. IsJoinStep-in_column g.T.Truths.columns g.T.Truths.holds _ _ _ c.step_on.ensures.wired moved steps fits) c.step_on.ensures.steps

pub returns-clause-columns : goal.returns-clause-columns
returns-clause-columns g c = c.step_on.ensures.kept.count

pub returns-clause-few : goal.returns-clause-few
returns-clause-few g c = λ column inside. c.step_on.ensures.few column

pub returns-clause-unknown : goal.returns-clause-unknown
returns-clause-unknown g c = c.step_on.ensures.unknown refl

pub returns-clause-moved : goal.returns-clause-moved
returns-clause-moved g c =
    IfOk-weaker c.step_on.result (StepsColumns g.T.Truths.columns g.T.Truths.holds true c.args.self.now c.step_on.new.self) _ (λ moved steps. steps.some)
    c.step_on.ensures.steps

pub returns-clause-rests : goal.returns-clause-rests
returns-clause-rests g c =
    IfOk-weaker c.step_on.result (StepsColumns g.T.Truths.columns g.T.Truths.holds true c.args.self.now c.step_on.new.self) _ (λ moved steps. steps.none)
    c.step_on.ensures.steps

pub returns-clause-err : goal.returns-clause-err
returns-clause-err g c =
    let s = c.step_on.ensures in
    on_fault c.step_on.result (Rests c.args.self.now c.step_on.new.self) _ s.rests
    (λ rests. column-rests g.T.Truths.columns g.T.Truths.has g.T.Truths.holds c.args.self.now c.step_on.new.self s.kept s.highs s.lows rests)

pub returns-clause-keeps : goal.returns-clause-keeps
returns-clause-keeps g c = record { kept = c.step_on.ensures.kept; bounded = c.step_on.ensures.bound }

pub returns-clause-spent : goal.returns-clause-spent
returns-clause-spent g c = c.step_on.ensures.spent
