use Rattle.spice_cards.proofs.PoolLemmas.{pool_of-cleared}
use Rattle.spice_cards.proofs.pool.Pool.clear.Goals as goal

pub returns : goal.returns
returns c = pool_of-cleared c.self.inside.text.items _ _ _ _ _ _ c.self.invariant c.truncate.ensures.items c.self.view_is
