-- All nodes are listed.
use Rattle.settling.proofs.NumbersLemmas.{listed_on}
use Rattle.settling.proofs.plain_stepping.PlainStepperSeenStepper.join_step.Goals as goal

pub returns-clause-listed : goal.returns-clause-listed
returns-clause-listed g c = listed_on c.join_step.result c.args.self.now.state c.join_step.new.self.state c.join_step.ensures.nodes
