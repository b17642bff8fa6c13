-- The names before this one.
use Rattle.std.proofs.Common.{◌≡◌, take}
use Rattle.symbol_session.proofs.quiet_start.same_names.Given as goal

abbrev pub invariant-loop-k : goal.invariant-loop-k
invariant-loop-k l = l.list ≡ take l.k l.names
