-- All nodes are listed.
use Rattle.settling.proofs.NumbersLemmas.{listed_on}
use Rattle.settling.proofs.plain_stepping.PlainStepperSeenStepper.step.Goals as goal

pub returns-clause-listed : goal.returns-clause-listed
returns-clause-listed g c = listed_on c.step.result c.args.self.now.state c.step.new.self.state c.step.ensures.nodes
