-- The first nodes are as they were.
use Rattle.std.proofs.Common.{◌≡◌, length, take}
use Rattle.run_beside.proofs.near.cut.Given as goal

abbrev pub invariant-loop-set : goal.invariant-loop-set
invariant-loop-set l = record {
  first : take l.count l.set.list ≡ take l.count l.fn.set.list;
  counted : length l.set.inside ≡ length l.fn.set.inside;
}

abbrev pub decreases-loop-set : goal.decreases-loop-set
decreases-loop-set l = length l.set.list
