-- So far the outputs have, in each column, the rails of those that were passed.
use Rattle.std.proofs.Common.{◌≡◌, ℕ, ◌+◌, ◌*◌, ◌<◌, List, length, map, take, All}
use Rattle.ternary.specs.declared.tern.Tern.{Tern}
use Rattle.ternary.specs.Tern.{may_one, may_zero}
use Rattle.straight_code.specs.Code.{results, code_value}
use Rattle.straight_code.specs.Flat.{flat_values}
use Rattle.truth_columns.specs.Columns.{values_in, AreKept}
use Rattle.truth_columns.proofs.outputs.write_outputs.Given as goal

abbrev pub invariant-loop-k : goal.invariant-loop-k
invariant-loop-k g l = record {
  kept : AreKept (g.T.Truths.columns l.fn.truths) (g.T.Truths.has l.fn.truths) (g.T.Truths.holds l.fn.truths)
      (g.T.Truths.columns l.truths) (g.T.Truths.has l.truths) (g.T.Truths.holds l.truths);
  bound : g.T.Truths.bound l.truths ≡ g.T.Truths.bound l.fn.truths;
  high_has : All (g.T.Truths.has l.truths) l.out_hi;
  low_has : All (g.T.Truths.has l.truths) l.out_lo;
  written : (column : ℕ) (input : List Tern) → column < g.T.Truths.columns l.fn.truths → length input ≡ l.code.inputs →
      take (2 + 2 * l.code.inputs + length l.code.instructions) (values_in (g.T.Truths.holds l.fn.truths) column l.values)
      ≡ flat_values input (results input l.code.instructions) →
      (take l.k (values_in (g.T.Truths.holds l.truths) column l.out_hi) ≡ map may_one (take l.k (code_value l.code input)))
      × (take l.k (values_in (g.T.Truths.holds l.truths) column l.out_lo) ≡ map may_zero (take l.k (code_value l.code input)));
}
