-- The last runs of a code, one in each column of words.
use Rattle.std.specs.Prelude.{◌≡◌, ℕ, ◌+◌, ◌*◌, ◌<◌, ◌⊎◌, List, [], Some, length, slice_get, take}
use Rattle.ternary.specs.declared.tern.Tern.{Tern}
use Rattle.straight_code.specs.Code.{CodeData, results}
use Rattle.straight_code.specs.Flat.{flat_values}
use Rattle.word_columns.specs.Columns.{column_bits}
use Rattle.part_words.specs.declared.last_runs.LastRuns.{LastRuns}

-- each column that begins with the constants and the rails of some states has the results of the code's instructions on them behind these
abbrev pub IsRunOf : CodeData → List ℕ → Type 0
IsRunOf code values = (column : ℕ) (input : List Tern) → column < 64 → length input ≡ code.inputs →
    take (2 + 2 * code.inputs) (column_bits column values) ≡ flat_values input [] →
    take (2 + 2 * code.inputs + length code.instructions) (column_bits column values) ≡ flat_values input (results input code.instructions)

-- those of the last runs that are of the code at this place are runs of this code
abbrev pub KnowsRuns : ℕ → CodeData → List LastRuns → Type 0
KnowsRuns place code known = (k : ℕ) (runs : LastRuns) → slice_get known k ≡ Some runs → runs.place ≡ Some place → IsRunOf code runs.values.items

-- the last runs are as they were, but for those of this code, which stands at this place
abbrev pub KeepsRuns : ℕ → CodeData → List LastRuns → List LastRuns → Type 0
KeepsRuns place code old new = (k : ℕ) (runs : LastRuns) → slice_get new k ≡ Some runs →
    (slice_get old k ≡ Some runs) ⊎ ((runs.place ≡ Some place) × IsRunOf code runs.values.items)
