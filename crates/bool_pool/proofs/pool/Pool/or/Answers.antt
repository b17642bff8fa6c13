-- The formula is made as the choice says.
use Rattle.bool_pool.proofs.MadeLemmas.{IsMade-taken}
use Rattle.bool_pool.proofs.pool.Pool.or.Goals as goal

pub returns-clause-made : goal.returns-clause-made
returns-clause-made g c = IsMade-taken _ _ _ _ c.take.ensures.made _ _ c.choose_or-choice.ensures.serves
