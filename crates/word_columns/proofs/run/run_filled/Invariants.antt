-- So far the outputs have, in each column, the rails of those that were passed.
use Rattle.std.proofs.Common.{◌≡◌, ℕ, ◌+◌, ◌*◌, ◌<◌, List, [], length, map, take}
use Rattle.ternary.specs.declared.tern.Tern.{Tern}
use Rattle.ternary.specs.Tern.{may_one, may_zero}
use Rattle.straight_code.specs.Code.{code_value}
use Rattle.straight_code.specs.Flat.{flat_values}
use Rattle.word_columns.specs.Columns.{column_bits}
use Rattle.word_columns.proofs.run.run_filled.Given as goal

abbrev pub invariant-loop-k : goal.invariant-loop-k
invariant-loop-k l = (column : ℕ) (input : List Tern) → column < 64 → length input ≡ l.code.inputs →
    take (2 + 2 * l.code.inputs) (column_bits column l.fn.values) ≡ flat_values input [] →
    (take l.k (column_bits column l.out_hi) ≡ map may_one (take l.k (code_value l.code input)))
    × (take l.k (column_bits column l.out_lo) ≡ map may_zero (take l.k (code_value l.code input)))
