-- The sides of the groups so far are listed.
use Rattle.std.proofs.Common.{◌≡◌, map, take}
use Rattle.circuit_lint.specs.Sides.{sides_of}
use Rattle.circuit_lint.proofs.sides.all_sides.Given as goal

abbrev pub invariant-loop-id : goal.invariant-loop-id
invariant-loop-id l = l.sides.items ≡ map (sides_of l.graph) (take l.id-index l.groups.groups)
