-- Names that a line can hold.
use Rattle.std.specs.Prelude.{ℕ, ◌<◌, ◌≤◌, List, length, All}
use Rattle.line_words.specs.Bytes.{first_visible, last_visible}

-- the name has one byte or more, all of them visible ASCII characters
pub record IsVisibleName (name : List ℕ) : Type 0 where
  pub some : 0 < length name
  pub visible : All (λ byte. (first_visible ≤ byte) × (byte ≤ last_visible)) name
