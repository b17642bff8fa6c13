-- The last texts have their new formulas.
use Rattle.std.proofs.Common.{length}
use Rattle.node_elimination.proofs.HeldTableLemmas.{ArePut}
use Rattle.node_elimination.proofs.held.put_formulas.Given as goal

abbrev pub invariant-loop-ids : goal.invariant-loop-ids
invariant-loop-ids l = ArePut l.fn.held.entries l.held.entries l.fn.split.items l.split.items

abbrev pub decreases-loop-ids : goal.decreases-loop-ids
decreases-loop-ids l = length l.split.items
