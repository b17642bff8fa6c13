-- The texts that are sent.
use Rattle.std.specs.Prelude.{ℕ, List}
use Rattle.symbol_meaning.specs.Comparing.{difference_text}
use Rattle.symbol_meaning.specs.Told.{told_text}
use Rattle.symbol_told.specs.declared.sending.Text.{Text}
use Rattle.symbol_told.specs.declared.sending.Text.TheVariants.{Told, Difference, Count}
use Rattle.symbol_told.specs.Differences.{counted_text, difference_seen}
use Rattle.symbol_told.specs.Lines.{told_seen}

-- a text of the code, by the names of the variables
abbrev pub text_of : List (List ℕ) → Text → List ℕ
text_of variables (Told line) = told_text variables (told_seen line)
text_of variables (Difference own) = difference_text variables (difference_seen own)
text_of variables (Count waves differences) = counted_text waves differences
