-- The rows of waveform lines that were noted.
use Rattle.std.specs.Prelude.{ℕ, Bool, List, [], ◌∷◌, ◌++◌, map}
use Rattle.ternary.specs.declared.tern.Tern.{Tern}
use Rattle.told_lines.specs.Lines.{Line, Wave, Told}

-- what a waveform line tells: its number, how many steps changed something, whether a joining step did, and the watched nodes' states
pub record WaveRowData : Type 0 where
  pub n : ℕ
  pub k : ℕ
  pub mark : Bool
  pub values : List Tern

-- the row of a waveform line, and of no other
abbrev pub rows_in : Line → List WaveRowData
rows_in (Wave n k mark values) = record { n = n; k = k; mark = mark; values = values } ∷ []
rows_in line = []

-- the rows of lines, in order
abbrev pub rows_of : List Line → List WaveRowData
rows_of [] = []
rows_of (line ∷ lines) = rows_in line ++ rows_of lines

-- the states that rows show
abbrev pub states_of : List WaveRowData → List (List Tern)
states_of rows = map (λ row. row.values) rows

-- one line more is noted
abbrev pub note : List WaveRowData → Told → List WaveRowData
note rows told = rows ++ rows_in told.line

-- notes: the rows, and how often memory was refused
pub record NotesData : Type 0 where
  pub rows : List WaveRowData
  pub refusals : ℕ
