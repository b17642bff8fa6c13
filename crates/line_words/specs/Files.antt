-- What is read of a file, and the line at which a file is too long.
use Rattle.std.specs.Prelude.{ℕ, Bool, false, ◌+◌, ◌==◌, List, length, take, nat_le, Option, Some, None, if◌then◌else◌}
use Rattle.std.specs.List.{enumerate_from}
use Rattle.std.specs.Option.{option_map_or}
use Rattle.line_words.specs.Lines.{lines_of}
use Rattle.line_words.specs.declared.files.TheConstants.{MOST_FILE_BYTES}

-- what is read of a file: all of it, or the first byte too many and what stands before it
abbrev pub front_of : List ℕ → List ℕ
front_of text = take (MOST_FILE_BYTES + 1) text

-- the lines that are read of a file, numbered from 1
abbrev pub lines_in : List ℕ → List (ℕ × List ℕ)
lines_in text = enumerate_from 1 (lines_of (front_of text))

-- the number of the line that holds the first byte too many, if there is one; a line's CR and LF belong to it
abbrev pub cut_line : List ℕ → Option ℕ
cut_line text =
    if nat_le (length text) MOST_FILE_BYTES then None else Some (length (lines_of (front_of text)))

-- the line with this number is the one at which the file is too long
abbrev pub is_cut : Option ℕ → ℕ → Bool
is_cut cut number = option_map_or (λ line. line == number) cut false
