-- Words and lines of a run as they stand in a dump, in which a word that begins with `$` would be read as a mark.
-- IEEE Standard 1364, section 18.
use Rattle.std.specs.Prelude.{ℕ, Bool, true, ◌&&◌, List, [], ◌∷◌, ◌++◌, codes, if◌then◌else◌, ◌==◌}

-- `$`, with which marks begin
abbrev pub mark_byte : ℕ
mark_byte = 36

-- a space, behind which a word may begin
abbrev pub space : ℕ
space = 32

-- what stands before a word that begins with `$`
abbrev pub backslash : ℕ
backslash = 92

-- a byte, with a backslash before it if it is a `$` at which a word begins
abbrev pub escaped_byte : Bool → ℕ → List ℕ
escaped_byte begins byte = if begins && (byte == mark_byte) then backslash ∷ byte ∷ [] else byte ∷ []

-- the bytes of a line so; whether a word may begin here
abbrev pub escaped_from : Bool → List ℕ → List ℕ
escaped_from begins [] = []
escaped_from begins (byte ∷ line) = escaped_byte begins byte ++ escaped_from (byte == space) line

-- a line or a word, with a backslash before each of its words that begins with `$`
abbrev pub escaped : List ℕ → List ℕ
escaped line = escaped_from true line

-- a line of the run as a comment: `$comment <line> $end`
abbrev pub comment : List ℕ → List ℕ
comment line = codes "$comment " ++ escaped line ++ codes " $end\n"
