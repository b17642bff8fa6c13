-- The cards of a deck go by the front of its text alone.
use Rattle.std.proofs.Common.{◌≡◌, ℕ, List, map, ap, ap₂}
use Rattle.std.specs.Char.{to_ascii_lowercase}
use Rattle.std.specs.List.{enumerate_from}
use Rattle.line_words.specs.Files.{front_of}
use Rattle.line_words.specs.Lines.{lines_of}
use Rattle.line_words.proofs.FileLemmas.{cut_line-front_of, front_of-front_of}
use Rattle.spice_cards.specs.Reading.{cards_of, deck_lines, titled_meaning}

-- the lines that are read of a text are those of its front
deck_lines-front_of : (text : List ℕ) → deck_lines (front_of text) ≡ deck_lines text
deck_lines-front_of text =
    ap (λ (front : List ℕ). enumerate_from 1 (lines_of (map to_ascii_lowercase front))) (front_of-front_of text)

-- what stands behind the first byte too many of a deck is no part of a card
pub cards_of-front_of : (text : List ℕ) → cards_of (front_of text) ≡ cards_of text
unfolding cards_of
cards_of-front_of text = ap₂ titled_meaning (cut_line-front_of text) (deck_lines-front_of text)
