-- What sending a text does to the bytes written.
use Rattle.std.specs.Prelude.{◌≡◌, ℕ, List, ◌++◌, Option}
use Rattle.std.specs.Io.KnownBytes.{append_known}

-- the sink grew by a text less what is left of it, if it is told
pub record Sends (old new : Option (List ℕ)) (text left : List ℕ) : Type 0 where
  pub sent : List ℕ
  pub whole : text ≡ sent ++ left
  pub grew : new ≡ append_known old sent

-- the sink grew by a prefix of the text, if it is told
abbrev pub WritesPart : Option (List ℕ) → Option (List ℕ) → List ℕ → Type 0
WritesPart old new text = (left : List ℕ) × Sends old new text left
