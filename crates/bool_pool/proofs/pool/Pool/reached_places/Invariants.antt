-- The roots are found, and then the operands of what was taken out. What waits is below that.
use Rattle.std.proofs.Common.{length, reverse}
use Rattle.std.specs.Prelude.{slice_index_or}
use Rattle.bool_pool.specs.Collecting.{Waits, AreApart, AreCollected}
use Rattle.bool_pool.proofs.pool.Pool.reached_places.Given as goal

abbrev pub invariant-loop-places : goal.invariant-loop-places
invariant-loop-places l =
    AreCollected l.self l.fn.roots.keys (Waits l.waiting.older.keys l.waiting.bottom l.waiting.marks.items) (reverse l.places.items)
    × AreApart l.waiting.older.keys l.waiting.bottom l.waiting.marks.items

abbrev pub decreases-loop-places : goal.decreases-loop-places
decreases-loop-places l = slice_index_or (reverse l.places.items) 0 (length l.self)
