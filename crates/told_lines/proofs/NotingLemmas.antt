-- What is noted of lines: the rows of their waveform lines.
use Rattle.std.proofs.Common.{[], ◌∷◌, ◌++◌, sym, ◌∙◌, append-nil, append_assoc}
use Rattle.told_lines.specs.Noting.{rows_in, rows_of}
use Rattle.told_lines.specs.Laws.{RowsAreNoted}

-- the rows of a column's lines are noted
pub rows_noted : RowsAreNoted
rows_noted column rows [] = sym (append-nil rows)
rows_noted column rows (line ∷ lines) =
    rows_noted column (rows ++ rows_in line) lines ∙ append_assoc rows (rows_in line) (rows_of lines)
