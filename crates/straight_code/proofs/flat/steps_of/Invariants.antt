-- So far the instructions that were passed stand there over the places.
use Rattle.std.proofs.Common.{◌≡◌, map, take}
use Rattle.straight_code.specs.Flat.{step_of}
use Rattle.straight_code.proofs.flat.steps_of.Given as goal

abbrev pub invariant-loop-k : goal.invariant-loop-k
invariant-loop-k l = l.steps.items ≡ map (step_of l.inputs) (take l.k l.instructions)
