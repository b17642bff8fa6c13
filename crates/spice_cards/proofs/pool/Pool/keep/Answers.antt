use Rattle.std.proofs.Common.{true, false}
use Rattle.spice_cards.proofs.PoolLemmas.{pool_of-kept}
use Rattle.spice_cards.proofs.pool.Pool.keep.Goals as goal

pub returns-then-inside-clause-ok : goal.returns-then-inside-clause-ok
returns-then-inside-clause-ok c =
    rw c.if-inside.true
    (pool_of-kept c.keep.result true c.self.inside.text.items c.self.inside.words.items _ _ _ _ _ _ _ _ _ _ c.self.invariant c.self.view_is c.requires
    c.keep.ensures.words c.keep.ensures.parts c.keep.ensures.kept c.in_ok-short-2.ensures c.in_ok-short-3.ensures c.in_ok-short.ensures)

pub returns-else-inside-clause-ok : goal.returns-else-inside-clause-ok
returns-else-inside-clause-ok c =
    rw c.if-inside.false
    (pool_of-kept c.keep-else-inside.result false c.self.inside.text.items c.self.inside.words.items _ _ _ _ _ _ _ _ _ _ c.self.invariant c.self.view_is c.requires
    c.keep-else-inside.ensures.words c.keep-else-inside.ensures.parts c.keep-else-inside.ensures.kept c.in_ok-short-2.ensures c.in_ok-short-3.ensures c.in_ok-short.ensures)
