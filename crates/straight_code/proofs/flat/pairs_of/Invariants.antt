-- So far the outputs that were passed stand there over the places.
use Rattle.std.proofs.Common.{◌≡◌, map, take}
use Rattle.straight_code.specs.Flat.{pair_of}
use Rattle.straight_code.proofs.flat.pairs_of.Given as goal

abbrev pub invariant-loop-output : goal.invariant-loop-output
invariant-loop-output l = l.pairs.items ≡ map (pair_of l.inputs) (take l.output-index l.outputs)
