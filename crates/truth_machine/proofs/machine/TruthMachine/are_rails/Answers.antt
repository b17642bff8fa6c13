-- What the machine keeps of its rails.
use Rattle.truth_machine.proofs.machine.TruthMachine.are_rails.Goals as goal

pub returns-clause-columns : goal.returns-clause-columns
returns-clause-columns g c = rw (← c.self.view_is) c.self.invariant.0.columns

pub returns-clause-highs : goal.returns-clause-highs
returns-clause-highs g c = rw (← c.self.view_is) c.self.invariant.0.highs

pub returns-clause-lows : goal.returns-clause-lows
returns-clause-lows g c = rw (← c.self.view_is) c.self.invariant.0.lows
