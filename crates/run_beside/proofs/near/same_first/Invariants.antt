-- The lists are the same so far.
use Rattle.std.proofs.Common.{◌≡◌, ◌≤◌, length, take}
use Rattle.run_beside.proofs.near.same_first.Given as goal

abbrev pub invariant-loop-place : goal.invariant-loop-place
invariant-loop-place l = record {
  most : l.place ≤ length l.list;
  same : take l.place l.list ≡ take l.place l.other;
}
