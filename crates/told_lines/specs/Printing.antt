-- Lines as they are printed, and what a printer has written.
use Rattle.std.specs.Prelude.{◌≡◌, ℕ, ◌+◌, Bool, true, false, List, [], ◌∷◌, ◌++◌, Option}
use Rattle.std.specs.Io.KnownBytes.{append_known}
use Rattle.ports.specs.Sending.{WritesPart}
use Rattle.printed_lines.specs.Lines.{column_start_of}
use Rattle.told_lines.specs.Lines.{Line, Refused, Told, line_text}

-- what stands before a column's line: the column's number from 1 and a blank; nothing before the line of a refusal, which is one of all columns
abbrev pub start_of : ℕ → Line → List ℕ
start_of column (Refused place code name count) = []
start_of column line = column_start_of (column + 1)

-- the text of a line as it is printed: with its column's number before it, or without
abbrev pub printed : Bool → Told → List ℕ
printed true told = start_of told.column told.line ++ line_text told.line
printed false told = line_text told.line

-- the text of lines as they are printed, one after the other
abbrev pub text_printed : Bool → List Told → List ℕ
text_printed numbered [] = []
text_printed numbered (told ∷ others) = printed numbered told ++ text_printed numbered others

-- whether a printer numbers columns, and what it has written, if that is told
pub record Page : Type 0 where
  pub numbered : Bool
  pub written : Option (List ℕ)

-- one line more is printed
abbrev pub print : Page → Told → Page
print page told = record page { written = append_known page.written (printed page.numbered told) }

-- a part of a line is printed
pub record PrintsPart (old : Page) (told : Told) (new : Page) : Type 0 where
  pub same : new.numbered ≡ old.numbered
  pub written : WritesPart old.written new.written (printed old.numbered told)

-- a printer: its page, how much room it has for a line, and its sink's counts
pub record PrinterData : Type 0 where
  pub page : Page
  pub room : ℕ
  pub faults : ℕ
  pub refusals : ℕ
