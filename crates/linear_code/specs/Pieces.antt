-- The pieces of the lines of a listing, and what it is to append them.
use Rattle.std.specs.Prelude.{◌≡◌, ℕ, List, ◌++◌, Result, OnOk, OnErr, decimal}
use Rattle.linear_code.specs.declared.listing_text.Piece.{Piece}
use Rattle.linear_code.specs.declared.listing_text.Piece.TheVariants.{Word, Number, Read}
use Rattle.linear_code.specs.ListingText.{operand_text, WritesFront}

-- the text of a piece: a word as it is, a number in decimal, or an operand
abbrev pub text_of : Piece → List ℕ
text_of (Word word) = word.now
text_of (Number number) = decimal number
text_of (Read operand) = operand_text operand

-- at Ok the text was appended, at Err a part of it from its start
pub record Writes {E : Type 0} (old new text : List ℕ) (result : Result (Unit {0}) E) : Type 0 where
  pub ok : OnOk result (new ≡ old ++ text)
  pub part : OnErr result (WritesFront old new text)

-- a part of the text was appended, and this rest of it is left
pub record IsLeft (old now text rest : List ℕ) : Type 0 where
  pub front : List ℕ
  pub splits : text ≡ front ++ rest
  pub appended : now ≡ old ++ front
