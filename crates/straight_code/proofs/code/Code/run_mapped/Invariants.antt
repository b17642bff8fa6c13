-- So far the array begins with the constants, the rails and the results of the instructions that were passed, one step each, and out with
-- the states of the outputs that were passed.
use Rattle.std.proofs.Common.{◌≡◌, ◌+◌, take, map}
use Rattle.switch_paths.specs.Switching.{state_at}
use Rattle.straight_code.specs.Code.{results, output_state}
use Rattle.straight_code.specs.Flat.{flat_values}
use Rattle.straight_code.proofs.code.Code.run_mapped.Given as goal

abbrev pub invariant-loop-k : goal.invariant-loop-k
invariant-loop-k g l = record {
  done : take (l.first + l.k) l.values
      ≡ flat_values (map (state_at l.state) l.nodes) (results (map (state_at l.state) l.nodes) (take l.k l.self.instructions));
  steps : l.steps ≡ l.initial.steps + l.k;
}

abbrev pub invariant-loop-k-2 : goal.invariant-loop-k-2
invariant-loop-k-2 g l =
    take l.k l.out
    ≡ map (output_state (map (state_at l.state) l.nodes) (results (map (state_at l.state) l.nodes) l.self.instructions)) (take l.k l.self.outputs)
