-- So far the results are those of the instructions that were passed.
use Rattle.std.proofs.Common.{◌≡◌, take}
use Rattle.straight_code.specs.Code.{results}
use Rattle.linear_code.proofs.listing.results_of.Given as goal

abbrev pub invariant-loop-instruction : goal.invariant-loop-instruction
invariant-loop-instruction l = l.results.items ≡ results l.state (take l.instruction-index l.instructions)
