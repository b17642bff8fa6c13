-- So far the array begins, in each column, with the constants and the rails of the inputs that were passed.
use Rattle.std.proofs.Common.{◌≡◌, ℕ, ◌+◌, ◌*◌, [], map, take, Some}
use Rattle.std.specs.Prelude.{slice_get}
use Rattle.switch_paths.specs.Switching.{state_at}
use Rattle.straight_code.specs.Flat.{flat_values}
use Rattle.word_columns.specs.Columns.{column_bits}
use Rattle.part_words.specs.Noting.{map_at}
use Rattle.part_words.proofs.gather.gather.Given as goal

abbrev pub invariant-loop-j : goal.invariant-loop-j
invariant-loop-j l = (column at : ℕ) → slice_get l.starts column ≡ Some at →
    take (2 + 2 * l.j) (column_bits column l.values) ≡ flat_values (map (state_at l.state) (map_at l.nodes l.j at)) []
