-- A row: the waveform lines of all columns, by one list of counts and one of values.
use Rattle.std.specs.Prelude.{ℕ, ◌*◌, false, List, [], ◌∷◌, length, take, drop, slice_index_or}
use Rattle.ternary.specs.declared.tern.Tern.{Tern}
use Rattle.settling.specs.declared.settling.Settled.{Settled}
use Rattle.told_lines.specs.Lines.{Line, Wave, Told}
use Rattle.told_lines.specs.Hearing.{row_of}

-- what a column's phase counted
abbrev pub count_at : List Settled → ℕ → Settled
count_at counts column = slice_index_or counts column (record { steps = 0; joined = false })

-- a column's values, so many of each column
abbrev pub values_at : ℕ → List Tern → ℕ → List Tern
values_at width values column = take width (drop (column * width) values)

-- a column's waveform line in the row with this number
abbrev pub wave_at : ℕ → List Settled → ℕ → List Tern → ℕ → Line
wave_at n counts width values column = Wave n (count_at counts column).steps (count_at counts column).joined (values_at width values column)

-- the waveform lines of all columns, in order
abbrev pub wave_row : ℕ → List Settled → ℕ → List Tern → List Told
wave_row n counts width values = row_of (λ column. wave_at n counts width values column ∷ []) (length counts)
