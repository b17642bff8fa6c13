-- So far the array has, in each column, what it had and the results of the instructions that were passed, one step each, and its front is as it was.
use Rattle.std.proofs.Common.{◌≡◌, ℕ, ◌+◌, ◌*◌, ◌<◌, List, [], length, take}
use Rattle.ternary.specs.declared.tern.Tern.{Tern}
use Rattle.straight_code.specs.Code.{results}
use Rattle.straight_code.specs.Flat.{flat_values}
use Rattle.word_columns.specs.Columns.{column_bits}
use Rattle.word_columns.proofs.run.run_steps.Given as goal

abbrev pub invariant-loop-done : goal.invariant-loop-done
invariant-loop-done g l = record {
  done : (column : ℕ) (input : List Tern) → column < 64 → length input ≡ l.code.inputs →
      take (2 + 2 * l.code.inputs) (column_bits column l.fn.values) ≡ flat_values input [] →
      take (2 + 2 * l.code.inputs + l.done) (column_bits column l.values) ≡ flat_values input (results input (take l.done l.code.instructions));
  front : take (2 + 2 * l.code.inputs) l.values ≡ take (2 + 2 * l.code.inputs) l.fn.values;
  steps : l.steps ≡ l.fn.steps + l.done;
}
