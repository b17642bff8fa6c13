-- Laws of what lines that were told come to.
use Rattle.std.specs.Prelude.{◌≡◌, ℕ, List, [], ◌++◌, false}
use Rattle.std.specs.Io.KnownBytes.{append_known}
use Rattle.told_lines.specs.Lines.{Line, Told, text_of}
use Rattle.told_lines.specs.Hearing.{hear_all, of_column}
use Rattle.told_lines.specs.Printing.{Page, print, text_printed}
use Rattle.told_lines.specs.Noting.{WaveRowData, note, rows_of}
use Rattle.told_lines.specs.Sums.{counted, summary_of}

-- a printer wrote the text of the lines that it heard, and of a single column that of the lines alone, if it doesn't number columns
pub record LinesArePrinted : Type 0 where
  pub all : (page : Page) (lines : List Told) → (hear_all print page lines).written ≡ append_known page.written (text_printed page.numbered lines)
  pub plain : (column : ℕ) (lines : List Line) → text_printed false (of_column column lines) ≡ text_of lines

-- notes of a column have the rows of its waveform lines
abbrev pub RowsAreNoted : Type 0
RowsAreNoted =
    (column : ℕ) (rows : List WaveRowData) (lines : List Line) → hear_all note rows (of_column column lines) ≡ rows ++ rows_of lines

-- a column's lines that were counted one after the other come to their summary
abbrev pub SumsAreTotals : Type 0
SumsAreTotals =
    (column nodes switches : ℕ) (lines : List Line) → hear_all counted (summary_of nodes switches []) (of_column column lines) ≡ summary_of nodes switches lines
