-- No more were counted than were passed.
use Rattle.std.proofs.Common.{◌≤◌}
use Rattle.node_elimination.proofs.system.System.count_neighbours.Given as goal

abbrev pub invariant-loop-j : goal.invariant-loop-j
invariant-loop-j l = l.count ≤ l.j
