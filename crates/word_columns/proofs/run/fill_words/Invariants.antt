-- So far the array begins, in each column, with the constants and the rails of the inputs that were passed.
use Rattle.std.proofs.Common.{◌≡◌, ℕ, ◌+◌, ◌*◌, ◌<◌, List, [], map, take}
use Rattle.ternary.specs.declared.tern.Tern.{Tern}
use Rattle.switch_paths.specs.Switching.{state_at}
use Rattle.straight_code.specs.Flat.{flat_values}
use Rattle.word_columns.specs.Columns.{column_bits, AreRailsIn}
use Rattle.word_columns.proofs.run.fill_words.Given as goal

abbrev pub invariant-loop-j : goal.invariant-loop-j
invariant-loop-j l = (column : ℕ) (state : List Tern) → column < 64 → AreRailsIn column l.hi l.lo state →
    take (2 + 2 * l.j) (column_bits column l.values) ≡ flat_values (map (state_at state) (take l.j l.nodes)) []
