-- The changes so far are listed.
use Rattle.std.proofs.Common.{◌≡◌, ◌++◌, take}
use Rattle.part_steps.specs.Workspaces.{nodes_noted}
use Rattle.unit_step.proofs.listing.add.Given as goal

abbrev pub invariant-loop-change : goal.invariant-loop-change
invariant-loop-change l = l.nodes.items ≡ l.fn.nodes.items ++ nodes_noted (take l.change-index l.changes)
