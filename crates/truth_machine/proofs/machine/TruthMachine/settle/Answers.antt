-- Each step keeps the truths of the maker and its bound, and so do all of them.
use Rattle.truth_machine.proofs.MovingLemmas.{keeps_reached}
use Rattle.truth_machine.proofs.machine.TruthMachine.settle.Goals as goal

pub returns-clause-kept : goal.returns-clause-kept
returns-clause-kept g c =
    (keeps_reached g.T.Truths.columns g.T.Truths.has g.T.Truths.holds g.T.Truths.bound c.args.self.now c.settle_columns.new.m c.settle_columns.ensures.keeps).kept

pub returns-clause-bound : goal.returns-clause-bound
returns-clause-bound g c =
    (keeps_reached g.T.Truths.columns g.T.Truths.has g.T.Truths.holds g.T.Truths.bound c.args.self.now c.settle_columns.new.m c.settle_columns.ensures.keeps).bounded

pub returns-clause-spent : goal.returns-clause-spent
returns-clause-spent g c = c.settle_columns.ensures.spent
