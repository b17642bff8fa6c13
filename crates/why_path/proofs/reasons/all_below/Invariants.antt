-- The numbers so far.
use Rattle.why_path.specs.Search.{AreAllBelow}
use Rattle.why_path.proofs.reasons.all_below.Given as goal

abbrev pub invariant-loop-number : goal.invariant-loop-number
invariant-loop-number l = AreAllBelow l.number l.numbers.items
