-- The changes so far are taken over in both runs.
use Rattle.std.proofs.Common.{ℕ, ◌<◌, ◌≤◌, length, take, get_or}
use Rattle.machine_parts.specs.Running.{IsTaken}
use Rattle.wide_groups.specs.Awake.{TurnedIn}
use Rattle.part_advance.proofs.NextChange.{default_change}
use Rattle.run_beside.specs.Near.{IsOut}
use Rattle.run_beside.specs.Following.{IsWritten, FollowsAt}
use Rattle.run_beside.proofs.following.follow.Given as goal

abbrev pub invariant-loop-k : goal.invariant-loop-k
invariant-loop-k l = record {
  ordered : l.first ≤ l.end;
  inside : l.end ≤ length l.changes;
  before : (j : ℕ) → j < l.k → j < l.first → IsOut l.near (get_or l.changes j default_change).node;
  behind : (j : ℕ) → j < l.k → l.end ≤ j → IsOut l.near (get_or l.changes j default_change).node;
  good : IsTaken (take l.k l.changes) l.fn.good l.good;
  bad : IsWritten (FollowsAt l.owners l.apart.inside) (take l.k l.changes) l.fn.bad l.bad;
  turned : TurnedIn l.fn.wide l.wide l.fn.bad l.bad;
}
