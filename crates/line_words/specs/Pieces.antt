-- Pieces of a text: where the first line of one ends, and the lines that LFs have ended so far.
use Rattle.std.specs.Prelude.{◌≡◌, ℕ, ◌+◌, ◌<◌, List, [], ◌∷◌, ◌++◌, length, take, drop}
use Rattle.line_words.specs.Bytes.{line_feed}
use Rattle.line_words.specs.Lines.{without_return, HasNoFeed}

-- the first LF of the piece stands at this place: the bytes before it have none
pub record EndsLine (piece : List ℕ) (end : ℕ) : Type 0 where
  pub inside : end < length piece
  pub parts : piece ≡ take end piece ++ line_feed ∷ drop (end + 1) piece
  pub before : HasNoFeed (take end piece)

-- the bytes are empty or end with an LF, and these are the lines that their LFs end
pub data AreEnded : List ℕ → List (List ℕ) → Type 0 where
  no_line : AreEnded [] []
  one_more : (line rest : List ℕ) (lines : List (List ℕ)) → HasNoFeed line → AreEnded rest lines →
      AreEnded (line ++ line_feed ∷ rest) (without_return line ∷ lines)
