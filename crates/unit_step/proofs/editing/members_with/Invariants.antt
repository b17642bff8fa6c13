-- The members of the groups of the nodes so far.
use Rattle.std.proofs.Common.{take, ℕ}
use Rattle.std.specs.Prelude.{◌↔◌, Contains}
use Rattle.machine_laws.specs.Seating.{IsWithAny}
use Rattle.unit_step.proofs.editing.members_with.Given as goal

abbrev pub invariant-loop-node : goal.invariant-loop-node
invariant-loop-node l = (node : ℕ) → Contains l.found.items node ↔ IsWithAny l.groups.groups (take l.node-index l.nodes) node
