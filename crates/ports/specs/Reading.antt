-- What reading the prefix of a file gives, and which names it started.
use Rattle.std.specs.Prelude.{◌≡◌, ◌<◌, ◌≤◌, ℕ, Bool, true, false, List, ◌++◌, length, take, drop, Option, Some, IfSome, Result, Ok, Err, ◌⊎◌}
use Rattle.std.specs.Io.KnownBytes.{prepend_known, IsAtEnd}
use Rattle.ports.specs.Ports.{with_name}
use Rattle.ports.specs.declared.ports.PortFault.{PortFault}
use Rattle.ports.specs.declared.ports.PortFault.TheVariants.{Failed, NoMemory}

-- the bytes are the front of what a name holds, of at most so many bytes, and all after them is left
pub record IsFront (holding : List ℕ) (most : ℕ) (bytes : List ℕ) (rest : Option (List ℕ)) : Type 0 where
  pub front : bytes ≡ take most holding
  pub left : rest ≡ Some (drop most holding)

-- the bytes and what is left are such parts, if it is told what names hold
abbrev pub ReadsFront : Option (List ℕ → List ℕ) → List ℕ → ℕ → List ℕ → Option (List ℕ) → Type 0
ReadsFront told name most bytes rest = IfSome told (λ holds. IsFront (holds name) most bytes rest)

-- the name was started once; where memory was lacking, once or not at all
abbrev pub StartsOnce : {T : Type 0} → Option (List (List ℕ)) → Option (List (List ℕ)) → List ℕ → Result T PortFault → Type 0
StartsOnce old new name (Ok _) = new ≡ with_name old name
StartsOnce old new name (Err Failed) = new ≡ with_name old name
StartsOnce old new name (Err NoMemory) = (new ≡ old) ⊎ (new ≡ with_name old name)

-- a piece was taken from what is left and put after the bytes: none of it only at the end
pub record TakesPiece (old new : Option (List ℕ)) (before after : List ℕ) (more : Bool) : Type 0 where
  pub piece : List ℕ
  pub taken : old ≡ prepend_known piece new
  pub grew : after ≡ before ++ piece
  pub some : more ≡ true → 0 < length piece
  pub none : more ≡ false → IsAtEnd new

-- the bytes were taken from what is left: at most so many, and fewer only at the end
pub record TakesFront (old new : Option (List ℕ)) (most : ℕ) (bytes : List ℕ) : Type 0 where
  pub taken : old ≡ prepend_known bytes new
  pub bound : length bytes ≤ most
  pub whole : length bytes < most → IsAtEnd new
