-- The formulas of the texts so far.
use Rattle.std.proofs.Common.{◌≡◌, take}
use Rattle.node_elimination.specs.Holding.{joined}
use Rattle.node_elimination.specs.HeldTable.{lists_of, shown}
use Rattle.node_elimination.proofs.held.all_formulas.Given as goal

abbrev pub invariant-loop-place : goal.invariant-loop-place
invariant-loop-place l = l.ids.items ≡ joined (take l.place (lists_of (shown l.held.entries)))
