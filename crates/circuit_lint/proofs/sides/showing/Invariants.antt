-- Those of the groups so far that show the fault are listed.
use Rattle.std.proofs.Common.{◌≡◌, filter, take}
use Rattle.circuit_lint.specs.Sides.{shows}
use Rattle.circuit_lint.proofs.sides.showing.Given as goal

abbrev pub invariant-loop-one : goal.invariant-loop-one
invariant-loop-one l = l.found.items ≡ filter (shows l.fault) (take l.one-index l.sides)
