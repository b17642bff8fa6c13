-- The first rail stands when the second is made.
use Rattle.bool_pool.proofs.MadeLemmas.{IsLeaf-extends}
use Rattle.dual_rail.proofs.rails.const_rails.Goals as goal

pub returns-clause-hi : goal.returns-clause-hi
returns-clause-hi g c =
    rw (← c.may_one.ensures) (IsLeaf-extends _ _ _ _ _ c.in_ok-lo.ensures.extends c.in_ok-hi.ensures.made)
