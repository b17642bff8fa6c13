-- So far the array has, in each column, what it had and the results of the instructions that were passed.
use Rattle.std.proofs.Common.{◌≡◌, ℕ, ◌+◌, ◌*◌, ◌<◌, List, [], length, take, All}
use Rattle.ternary.specs.declared.tern.Tern.{Tern}
use Rattle.straight_code.specs.Code.{results}
use Rattle.straight_code.specs.Flat.{flat_values}
use Rattle.truth_columns.specs.Columns.{values_in, AreKept}
use Rattle.truth_columns.proofs.run.run_steps.Given as goal

abbrev pub invariant-loop-k : goal.invariant-loop-k
invariant-loop-k g l = record {
  kept : AreKept (g.T.Truths.columns l.fn.truths) (g.T.Truths.has l.fn.truths) (g.T.Truths.holds l.fn.truths)
      (g.T.Truths.columns l.truths) (g.T.Truths.has l.truths) (g.T.Truths.holds l.truths);
  bound : g.T.Truths.bound l.truths ≡ g.T.Truths.bound l.fn.truths;
  has : All (g.T.Truths.has l.truths) l.values;
  ran : (column : ℕ) (input : List Tern) → column < g.T.Truths.columns l.fn.truths → length input ≡ l.code.inputs →
      take (2 + 2 * l.code.inputs) (values_in (g.T.Truths.holds l.fn.truths) column l.fn.values) ≡ flat_values input [] →
      take (2 + 2 * l.code.inputs + l.k) (values_in (g.T.Truths.holds l.truths) column l.values) ≡ flat_values input (results input (take l.k l.code.instructions));
}
