-- None of the changes so far is of a node that follows.
use Rattle.std.proofs.Common.{take}
use Rattle.beside_phases.specs.Counting.{SomeFollows}
use Rattle.beside_phases.proofs.counting.some_follows.Given as goal

abbrev pub invariant-loop-change : goal.invariant-loop-change
invariant-loop-change l = ¬ SomeFollows (take l.change-index l.changes) l.machine.parts l.apart.inside l.good
