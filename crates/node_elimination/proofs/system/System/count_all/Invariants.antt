-- Counting changes nothing that contracts see.
use Rattle.std.proofs.Common.{◌≡◌}
use Rattle.node_elimination.proofs.system.System.count_all.Given as goal

abbrev pub invariant-loop-i : goal.invariant-loop-i
invariant-loop-i l = l.self ≡ l.initial.self
