-- The marks that were cut off were not set.
use Rattle.std.proofs.Common.{ℕ, ◌↔◌, ◌≤◌, length}
use Rattle.bool_pool.specs.Collecting.{IsMarkedFrom}
use Rattle.bool_pool.proofs.reach.take_marked.Given as goal

abbrev pub invariant-loop-is_set : goal.invariant-loop-is_set
invariant-loop-is_set l =
    (length l.marks.items ≤ length l.fn.marks.items)
    × ((k : ℕ) → IsMarkedFrom l.bottom l.marks.items k ↔ IsMarkedFrom l.bottom l.fn.marks.items k)

abbrev pub decreases-loop-is_set : goal.decreases-loop-is_set
decreases-loop-is_set l = length l.marks.items
