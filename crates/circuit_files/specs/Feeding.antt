-- What reading a file into the reader of a netlist does: the bytes that came are those that the reader was fed.
use Rattle.std.specs.Prelude.{◌≡◌, ℕ, List, [], ◌∷◌, length, Option, IfSome}
use Rattle.std.specs.Io.KnownBytes.{prepend_known, IsAtEnd}
use Rattle.line_words.specs.Files.{front_of}
use Rattle.ports.specs.Reading.{TakesFront}
use Rattle.ports.specs.Taken.{Taken, with_files, with_more}
use Rattle.sim_read.specs.Standing.{GoesOn, ReaderData}

-- so many bytes were taken from what is left and fed to the reader, none of them only at the end
pub record FeedsPiece (old new : Option (List ℕ)) (before after : ReaderData) (count : ℕ) : Type 0 where
  pub piece : List ℕ
  pub taken : old ≡ prepend_known piece new
  pub size : length piece ≡ count
  pub goes_on : GoesOn before after piece
  pub none : count ≡ 0 → IsAtEnd new

-- what is left was taken and fed to the reader: at most so many bytes, and fewer only at the end
pub record FeedsFront (old new : Option (List ℕ)) (before after : Taken) (most : ℕ) (start now : ReaderData) : Type 0 where
  pub bytes : List ℕ
  pub front : TakesFront old new most bytes
  pub counted : after ≡ with_more before (length bytes)
  pub goes_on : GoesOn start now bytes

-- a file that holds what the name holds was started, and its front was fed to the reader: all of it, or up to the first byte too many
pub record FeedsFile (told : Option (List ℕ → List ℕ)) (name : List ℕ) (before after : Taken) (start now : ReaderData) : Type 0 where
  pub bytes : List ℕ
  pub front : IfSome told (λ holds. bytes ≡ front_of (holds name))
  pub counted : after ≡ with_files before (length bytes ∷ [])
  pub goes_on : GoesOn start now bytes
