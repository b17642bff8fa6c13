-- The pairs before this one.
use Rattle.std.proofs.Common.{◌≡◌, ◌++◌, drop, map}
use Rattle.symbol_giving.specs.Letters.{same_pair}
use Rattle.symbol_giving.proofs.letters.same_letters.Given as goal

abbrev pub invariant-loop-node : goal.invariant-loop-node
invariant-loop-node l = l.letters.items ++ map same_pair (drop l.node-index l.pairs) ≡ map same_pair l.pairs
