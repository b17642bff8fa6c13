-- The starts of the groups so far were added.
use Rattle.std.proofs.Common.{take}
use Rattle.circuit_lint.specs.Starts.{AddsStarts}
use Rattle.circuit_lint.proofs.starts.add_starts.Given as goal

abbrev pub invariant-loop-id : goal.invariant-loop-id
invariant-loop-id l = AddsStarts l.graph l.distance (take l.id-index l.groups.groups) l.fn.starts.items l.starts.items
