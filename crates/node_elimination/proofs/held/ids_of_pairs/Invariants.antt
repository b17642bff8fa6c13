-- The formulas of the pairs so far.
use Rattle.std.proofs.Common.{◌≡◌, take}
use Rattle.node_elimination.specs.Holding.{ids_of}
use Rattle.node_elimination.proofs.held.ids_of_pairs.Given as goal

abbrev pub invariant-loop-rails : goal.invariant-loop-rails
invariant-loop-rails l = l.ids.items ≡ ids_of (take l.rails-index l.pairs)
