-- So far scratch begins with the results of the instructions that were passed, one step each, and out with the states of the outputs that were passed.
use Rattle.std.proofs.Common.{◌≡◌, ◌+◌, take, map}
use Rattle.straight_code.specs.Code.{results, output_state}
use Rattle.straight_code.proofs.code.Code.run.Given as goal

abbrev pub invariant-loop-k : goal.invariant-loop-k
invariant-loop-k g l = record {
  done : take l.k l.scratch ≡ results l.input (take l.k l.self.instructions);
  steps : l.steps ≡ l.initial.steps + l.k;
}

abbrev pub invariant-loop-k-2 : goal.invariant-loop-k-2
invariant-loop-k-2 g l = take l.k l.out ≡ map (output_state l.input l.results) (take l.k l.self.outputs)
