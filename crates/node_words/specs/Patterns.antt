-- Patterns of names: a `*` matches any bytes, none too, and every other byte itself.
use Rattle.std.specs.Prelude.{◌≡◌, ℕ, ◌+◌, ◌<◌, Bool, true, false, ◌==◌, ◌&&◌, ◌||◌, List, [], ◌∷◌, ◌++◌, length, Option, MatchOption, IfSome, bytes_eq, if◌then◌else◌}
use Rattle.std.specs.Borrow.{Bor}

-- the byte `*`
abbrev pub star : ℕ
star = 42

-- the byte is `*`
abbrev pub is_star : ℕ → Bool
is_star byte = byte == star

-- the bytes begin with this byte, and the test passes at those behind it
abbrev pub behind_byte : ℕ → (List ℕ → Bool) → List ℕ → Bool
behind_byte own test [] = false
behind_byte own test (byte ∷ bytes) = own == byte && test bytes

-- the test passes at what is left of the bytes behind some of them, none or all too
abbrev pub behind_some : (List ℕ → Bool) → List ℕ → Bool
behind_some test [] = test []
behind_some test (byte ∷ bytes) = test (byte ∷ bytes) || behind_some test bytes

-- the pattern matches the name
abbrev pub matches : List ℕ → List ℕ → Bool
matches [] [] = true
matches [] (byte ∷ name) = false
matches (own ∷ pattern) name =
    if is_star own then behind_some (matches pattern) name else behind_byte own (matches pattern) name

-- the same as a grammar: nothing matches nothing; a byte itself and then what the pattern behind it matches; a `*` any bytes and then
-- what the pattern behind it matches
pub data Matches : List ℕ → List ℕ → Type 0 where
  ended : Matches [] []
  itself : (byte : ℕ) (pattern name : List ℕ) → is_star byte ≡ false → Matches pattern name → Matches (byte ∷ pattern) (byte ∷ name)
  any : (bytes pattern name : List ℕ) → Matches pattern name → Matches (star ∷ pattern) (bytes ++ name)

-- of a pattern behind a `*` and a name this pattern and this name are left to compare, which match exactly if those do; or none, where
-- those match exactly if they are equal
abbrev pub LeavesAlike : List ℕ → List ℕ → Option (Bor (List ℕ) × Bor (List ℕ)) → Type 0
LeavesAlike pattern name left =
    MatchOption left (behind_some (matches pattern) name ≡ bytes_eq pattern name)
    (λ rest. behind_some (matches rest.0.now) rest.1.now ≡ behind_some (matches pattern) name)

-- and they are shorter together
abbrev pub LeavesLess : List ℕ → List ℕ → Option (Bor (List ℕ) × Bor (List ℕ)) → Type 0
LeavesLess pattern name left = IfSome left (λ rest. length rest.0.now + length rest.1.now < length pattern + length name)
