-- A gate that was put is what the choice says.
use Rattle.bool_pool.proofs.MadeLemmas.{IsMade-put}
use Rattle.bool_pool.proofs.pool.Pool.take.Goals as goal

pub returns-in-New-clause-made : goal.returns-in-New-clause-made
returns-in-New-clause-made c = IsMade-put _ _ _ _ c.put.result c.in-New.is c.requires c.put.ensures.extends c.put.ensures.placed
