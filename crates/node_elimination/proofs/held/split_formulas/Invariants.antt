-- The parts of the texts so far, behind which the others begin.
use Rattle.std.proofs.Common.{map}
use Rattle.node_elimination.specs.HeldTable.{lists_of, shown}
use Rattle.node_elimination.proofs.HeldTableLemmas.{AreSplit}
use Rattle.node_elimination.proofs.held.split_formulas.Given as goal

abbrev pub invariant-loop-place : goal.invariant-loop-place
invariant-loop-place l = AreSplit (lists_of (shown l.held.entries)) l.found l.place l.at (map (λ ids. ids.items) l.split.items)
