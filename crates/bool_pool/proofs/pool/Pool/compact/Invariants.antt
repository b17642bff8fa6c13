-- The gates at the places so far are copied.
use Rattle.std.proofs.Common.{take, nat_eq}
use Rattle.indexmap.specs.IndexMap.{get}
use Rattle.bool_pool.specs.Copying.{AreCopied}
use Rattle.bool_pool.proofs.pool.Pool.compact.Given as goal

abbrev pub invariant-loop-place : goal.invariant-loop-place
invariant-loop-place l =
    AreCopied l.self (take l.place-index l.place-items) l.copies.pool (get nat_eq l.copies.ids)
