-- So far the array begins, in each column, with the constants and the rails of the inputs that were passed.
use Rattle.std.proofs.Common.{◌≡◌, ℕ, ◌+◌, ◌*◌, ◌<◌, List, [], map, take, All}
use Rattle.ternary.specs.declared.tern.Tern.{Tern}
use Rattle.switch_paths.specs.Switching.{state_at}
use Rattle.straight_code.specs.Flat.{flat_values}
use Rattle.truth_columns.specs.Columns.{values_in, HasColumn}
use Rattle.truth_columns.proofs.run.fill.Given as goal

abbrev pub invariant-loop-j : goal.invariant-loop-j
invariant-loop-j g l = record {
  has : All (g.T.Truths.has l.truths) l.values;
  filled : (column : ℕ) (state : List Tern) → column < g.T.Truths.columns l.truths → HasColumn (g.T.Truths.holds l.truths) column l.hi l.lo state →
      take (2 + 2 * l.j) (values_in (g.T.Truths.holds l.truths) column l.values) ≡ flat_values (map (state_at state) (take l.j l.nodes)) [];
}
