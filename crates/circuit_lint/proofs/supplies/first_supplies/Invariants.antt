-- The names so far are noted.
use Rattle.circuit_lint.specs.Supplies.{AreFirstSupplies}
use Rattle.circuit_lint.proofs.supplies.first_supplies.Given as goal

abbrev pub invariant-loop-place : goal.invariant-loop-place
invariant-loop-place l = AreFirstSupplies l.circuit l.place l.firsts.items
