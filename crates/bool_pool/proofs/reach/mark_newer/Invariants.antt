-- The same places wait as at first.
use Rattle.std.proofs.Common.{◌≡◌, ℕ, ◌↔◌, ◌+◌, ◌<◌, length, Contains}
use Rattle.bool_pool.specs.Collecting.{Waits}
use Rattle.bool_pool.proofs.reach.mark_newer.Given as goal

abbrev pub invariant-loop-place : goal.invariant-loop-place
invariant-loop-place l =
    ((k : ℕ) → Contains l.older.keys k → k < l.bottom + length l.marks.items)
    × (length l.marks.items ≡ length l.fn.marks.items)
    × ((k : ℕ) → Waits l.older.keys l.bottom l.marks.items k ↔ Waits l.fn.older.keys l.bottom l.fn.marks.items k)

abbrev pub decreases-loop-place : goal.decreases-loop-place
decreases-loop-place l = length l.older.keys
