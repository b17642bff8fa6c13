-- What a buffer of lines is to its user: its bytes, and the room that is left.
use Rattle.std.specs.Prelude.{ℕ, List}

-- the bytes that are there, and how many more can be added without memory
pub record LineBufData : Type 0 where
  pub bytes : List ℕ
  pub spare : ℕ
