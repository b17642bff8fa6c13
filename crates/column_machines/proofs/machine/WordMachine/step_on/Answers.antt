-- In each column a step keeps the nodes, and each fits the graph as before.
use Rattle.column_machines.proofs.FittingLemmas.{FitsInWords-stepped}
use Rattle.column_machines.proofs.machine.WordMachine.step_on.Goals as goal

pub returns-clause-fits : goal.returns-clause-fits
returns-clause-fits c = λ fits. FitsInWords-stepped _ c.graphs_are_wired.ensures _ _ _ _ c.take.ensures.steps fits

pub returns-clause-columns : goal.returns-clause-columns
returns-clause-columns c = c.take.ensures.steps.columns

pub returns-clause-nodes : goal.returns-clause-nodes
returns-clause-nodes c = λ column inside. (c.take.ensures.steps.each column inside).moves.count

pub returns-clause-few : goal.returns-clause-few
returns-clause-few c = λ column inside. c.take.ensures.few column

pub returns-clause-changed : goal.returns-clause-changed
returns-clause-changed c = λ column inside. (c.take.ensures.steps.each column inside).changed

pub returns-clause-same : goal.returns-clause-same
returns-clause-same c = λ column inside. (c.take.ensures.steps.each column inside).same

pub returns-clause-beyond : goal.returns-clause-beyond
returns-clause-beyond c = c.take.ensures.steps.beyond
