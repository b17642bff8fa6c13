-- No part so far has more members.
use Rattle.std.proofs.Common.{◌≤◌, take, All}
use Rattle.part_lists.proofs.lists.most_members.Given as goal

abbrev pub invariant-loop-part : goal.invariant-loop-part
invariant-loop-part l = All (λ part. part.members ≤ l.most) (take l.part-index l.parts)
