-- The formula is formed in one step more than "or both".
use Rattle.std.proofs.Common.{arith}
use Rattle.node_elimination.proofs.OneLink.{IsFormed-or_all}
use Rattle.node_elimination.proofs.level.or_all.Goals as goal

pub returns-clause-formed : goal.returns-clause-formed
returns-clause-formed g c =
    IsFormed-or_all _ _ _ _ _ _ _ c.in_ok-both.both.place _ _ c.or_and.result c.in_ok-both.ensures.extends c.requires.into
    c.requires.first
    c.in_ok-both.ensures.made c.or_and.ensures.formed (omega (arith, c.in_ok-both.ensures.step, c.or_and.ensures.rises))
