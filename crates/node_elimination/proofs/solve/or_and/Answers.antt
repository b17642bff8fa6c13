-- The formula is formed in two steps.
use Rattle.std.proofs.Common.{arith}
use Rattle.node_elimination.proofs.GrowthLemmas.{IsFormed-or_and}
use Rattle.node_elimination.proofs.solve.or_and.Goals as goal

pub returns-clause-formed : goal.returns-clause-formed
returns-clause-formed g c =
    IsFormed-or_and _ _ _ _ _ _ c.in_ok-both.both.place _ c.or.result c.in_ok-both.ensures.extends c.or.ensures.extends
    c.requires.into
    c.in_ok-both.ensures.made c.or.ensures.made (omega (arith, c.in_ok-both.ensures.step, c.or.ensures.step))
