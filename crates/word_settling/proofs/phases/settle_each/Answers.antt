-- A column where all rest takes no joining step; else it joins after its steps.
use Rattle.std.proofs.Common.{get_or}
use Rattle.std.proofs.lemmas.Bool.{OnTrue_at}
use Rattle.word_settling.proofs.CountLemmas.{settles_at_rest}
use Rattle.word_settling.proofs.phases.settle_each.Goals as goal

pub returns-else-not-step_columns-clause-settles : goal.returns-else-not-step_columns-clause-settles
returns-else-not-step_columns-clause-settles g c fits column past inside =
    settles_at_rest c.args.graph.now c.args.limit (g.M.WordStepper.state c.args.m.now column) (g.M.WordStepper.state c.step_columns.new.m column)
    (get_or c.step_columns.new.out column past) (c.step_columns.ensures.stepping fits column past inside)
    (OnTrue_at c.if-not-step_columns.false (c.step_columns.ensures.rest fits) column inside) (c.step_columns.ensures.unjoined column past inside)
