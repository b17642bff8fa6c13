-- What lines that were told come to.
use Rattle.std.specs.Prelude.{◌≡◌, ◌||◌, List}
use Rattle.std.specs.List.{list_any}
use Rattle.std.specs.Io.KnownBytes.{append_known}
use Rattle.told_lines.specs.Hearing.{hear_all}
use Rattle.symbol_meaning.specs.Told.{is_unmet, texts_told}
use Rattle.symbol_told.specs.Lines.{Telling}
use Rattle.symbol_told.specs.Printing.{Page, lines_told, print}

-- a printer wrote the text of the lines that it heard, and remembers whether an expectation among them isn't met
pub record SymbolLinesArePrinted : Type 0 where
  pub written : (page : Page) (lines : List Telling) →
      (hear_all print page lines).written ≡ append_known page.written (texts_told page.variables (lines_told lines))
  pub missed : (page : Page) (lines : List Telling) → (hear_all print page lines).missed ≡ (page.missed || list_any is_unmet (lines_told lines))
