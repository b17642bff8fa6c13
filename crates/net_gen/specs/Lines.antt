-- Pieces of lines, and the lines of several numbers, one after another.
use Rattle.std.specs.Prelude.{ℕ, ◌*◌, List}
use Rattle.std.specs.Fmt.{decimal}
use Rattle.std.specs.List.{flat_map, range_with_len}
use Rattle.net_gen.specs.declared.lines.Piece.{Piece}
use Rattle.net_gen.specs.declared.lines.Piece.TheVariants.{Word, Number}

-- the text of a piece: a word as it is, a number in decimals
abbrev pub text_of : Piece → List ℕ
text_of (Word word) = word.now
text_of (Number number) = decimal number

-- the texts of `count` numbers from `first` on, one after another
unfoldable pub each : ℕ → ℕ → (ℕ → List ℕ) → List ℕ
each first count text = flat_map text (range_with_len first count)

-- the turns of a script: turn t, counted from 0, comes after t times `per` draws
unfoldable pub turns : ℕ → ℕ → (ℕ → List ℕ) → List ℕ
turns count per text = each 0 count (λ turn. text (per * turn))
