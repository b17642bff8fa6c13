-- The pairs before this one, and those that are left.
use Rattle.std.proofs.Common.{◌≡◌, ◌++◌}
use Rattle.std.specs.Prelude.{zip}
use Rattle.symbol_giving.proofs.items.paired.Given as goal

abbrev pub invariant-loop-node : goal.invariant-loop-node
invariant-loop-node l = l.pairs.items ++ zip l.node-iterator.a.rest.now l.node-iterator.b.rest.now ≡ zip l.nodes l.letters
