-- Each column fits the graph as before, whether the step was taken or not.
use Rattle.truth_machine.specs.Machines.{FitsInMachine}
use Rattle.truth_machine.specs.Moving.{Rests, StepsColumns}
use Rattle.truth_machine.proofs.MovingLemmas.{either_way, FitsInMachine-rests, FitsInMachine-stepped}
use Rattle.truth_machine.proofs.machine.TruthMachine.step_on.Goals as goal

pub returns-clause-fits : goal.returns-clause-fits
returns-clause-fits g c = λ fits.
    let old = c.args.self.now in
    let new = c.take.new.self in
    let t = c.take.ensures in
    either_way c.take.result (StepsColumns g.T.Truths.columns g.T.Truths.holds c.args.joining old new) (Rests old new)
    (FitsInMachine g.T.Truths.columns g.T.Truths.holds c.args.graph.now new) t.steps t.rests
    (λ moved steps. FitsInMachine-stepped g.T.Truths.columns g.T.Truths.has g.T.Truths.holds old new t.kept t.highs t.lows c.args.graph.now c.graphs_are_wired.ensures
    c.args.joining moved steps fits)
    (λ rests. FitsInMachine-rests g.T.Truths.columns g.T.Truths.has g.T.Truths.holds old new t.kept t.highs t.lows c.args.graph.now rests fits)
