-- There is a list for each node so far.
use Rattle.std.proofs.Common.{◌≡◌, length}
use Rattle.wave_dump.proofs.entries.no_lists.Given as goal

abbrev pub invariant-loop : goal.invariant-loop
invariant-loop l = length l.lists.items ≡ l.counter
