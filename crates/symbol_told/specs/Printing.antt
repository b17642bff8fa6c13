-- What a printer of lines has written.
use Rattle.std.specs.Prelude.{◌≡◌, ℕ, Bool, ◌||◌, List, map, Option}
use Rattle.std.specs.Io.KnownBytes.{append_known}
use Rattle.ports.specs.Sending.{WritesPart}
use Rattle.symbol_meaning.specs.Told.{SymbolTold, is_unmet, told_text}
use Rattle.symbol_told.specs.Lines.{Telling}

-- the names of the script's variables, what was written, if that is told, and whether an expectation among the lines isn't met
pub record Page : Type 0 where
  pub variables : List (List ℕ)
  pub written : Option (List ℕ)
  pub missed : Bool

-- one line more is printed
abbrev pub print : Page → Telling → Page
print page told = record page { written = append_known page.written (told_text page.variables told.line); missed = page.missed || is_unmet told.line }

-- a part of a line is printed
pub record PrintsPart (old : Page) (line : SymbolTold) (new : Page) : Type 0 where
  pub same : new.variables ≡ old.variables
  pub written : WritesPart old.written new.written (told_text old.variables line)

abbrev pub part_printed : Page → Telling → Page → Type 0
part_printed old told new = PrintsPart old told.line new

-- a printer: its page, and its sink's counts
pub record PrinterData : Type 0 where
  pub page : Page
  pub faults : ℕ
  pub refusals : ℕ

-- the lines alone
abbrev pub lines_told : List Telling → List SymbolTold
lines_told all = map (λ told. told.line) all
