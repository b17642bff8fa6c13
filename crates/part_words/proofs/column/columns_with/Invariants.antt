-- So far each column that is left begins with the constants and the rails of the states that were passed.
use Rattle.std.proofs.Common.{◌≡◌, ℕ, ◌+◌, ◌*◌, ◌<◌, true, [], map, take}
use Rattle.switch_paths.specs.Switching.{state_at}
use Rattle.straight_code.specs.Flat.{flat_values}
use Rattle.word_columns.specs.Columns.{is_in_column, column_bits}
use Rattle.part_words.specs.Noting.{map_at}
use Rattle.part_words.proofs.column.columns_with.Given as goal

abbrev pub invariant-loop-j : goal.invariant-loop-j
invariant-loop-j l = (column : ℕ) → column < 64 → is_in_column column l.columns ≡ true →
    take (2 + 2 * l.j) (column_bits column l.all) ≡ flat_values (map (state_at l.state) (map_at l.nodes l.j l.at)) []
