-- Comments, and the faults of a line.
use Rattle.std.specs.Prelude.{◌≡◌, ℕ, Bool, true, false, not, List, ◌++◌, ◌∷◌, length, ◌==◌, ◌||◌, nat_lt, if◌then◌else◌, Option, Some, None, find, All}
use Rattle.std.specs.List.{list_all}
use Rattle.std.specs.Option.{option_map_or}
use Rattle.line_words.specs.Bytes.{bar, is_blank, is_line_byte}
use Rattle.line_words.specs.declared.line_check.LineFault.{LineFault}
use Rattle.line_words.specs.declared.line_check.LineFault.TheVariants.{TooLong, BadByte}
use Rattle.line_words.specs.declared.line_check.TheConstants.{LONGEST_LINE}

-- the first byte that isn't blank is `|`
abbrev pub is_comment : List ℕ → Bool
is_comment line = option_map_or (λ byte. byte == bar) (find (λ byte. not (is_blank byte)) line) false

-- the same: blanks, `|`, and any bytes
pub record IsComment (line : List ℕ) : Type 0 where
  pub blanks : List ℕ
  pub text : List ℕ
  pub parts : line ≡ blanks ++ bar ∷ text
  pub all_blank : All (λ byte. is_blank byte ≡ true) blanks

-- the fault of a line: too many bytes, else none in a comment, else a byte that may not stand in a line
abbrev pub line_fault : List ℕ → Option LineFault
line_fault line =
    if nat_lt LONGEST_LINE (length line) then Some TooLong
    else (if is_comment line || list_all is_line_byte line then None else Some BadByte)
