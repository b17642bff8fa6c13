-- The changes so far are written.
use Rattle.std.proofs.Common.{take}
use Rattle.machine_parts.specs.Running.{IsTaken}
use Rattle.wide_groups.specs.Awake.{TurnedIn}
use Rattle.run_beside.proofs.following.write_all.Given as goal

abbrev pub invariant-loop-change : goal.invariant-loop-change
invariant-loop-change l = record {
  taken : IsTaken (take l.change-index l.changes) l.fn.state l.state;
  turned : TurnedIn l.fn.wide l.wide l.fn.state l.state;
}
