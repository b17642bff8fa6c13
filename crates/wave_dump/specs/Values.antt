-- The lines of values in a dump, of all entries and of those that changed.
-- IEEE Standard 1364, section 18.
use Rattle.std.specs.Prelude.{ℕ, ◌+◌, Bool, true, false, ◌&&◌, List, [], ◌∷◌, ◌++◌, map, codes, if◌then◌else◌}
use Rattle.ternary.specs.declared.tern.Tern.{Tern}
use Rattle.ternary.specs.declared.tern.Tern.TheVariants.{Zero, One, Unk}
use Rattle.switch_paths.specs.Switching.{state_at}
use Rattle.told_lines.specs.Sums.{is_state}
use Rattle.wave_dump.specs.Codes.{code_of}
use Rattle.wave_dump.specs.Scenes.{EntryData}

-- the letter of a state: `0`, `1` or `x`
abbrev pub letter : Tern → ℕ
letter Zero = 48
letter One = 49
letter Unk = 120

-- the value of an entry in a state: the state of each of its nodes
abbrev pub value_in : List Tern → EntryData → List Tern
value_in state entry = map (state_at state) entry.nodes

-- the values of entries in a state
abbrev pub values_in : List Tern → List EntryData → List (List Tern)
values_in state entries = map (value_in state) entries

-- what stands before the code in a value's line: the letter if it is of one node, else `b`, the letters and a space
abbrev pub value_start : List Tern → List ℕ
value_start (only ∷ []) = letter only ∷ []
value_start value = codes "b" ++ map letter value ++ codes " "

-- the line of the value of the entry with this number
abbrev pub value_line : ℕ → List Tern → List ℕ
value_line number value = value_start value ++ code_of number ++ codes "\n"

-- the lines of all values, from the entry with this number on
abbrev pub value_lines : ℕ → List (List Tern) → List ℕ
value_lines number [] = []
value_lines number (value ∷ values) = value_line number value ++ value_lines (number + 1) values

-- two values are the same, letter by letter
abbrev pub same_value : List Tern → List Tern → Bool
same_value [] [] = true
same_value (one ∷ ones) (two ∷ twos) = is_state one two && same_value ones twos
same_value ones twos = false

-- the lines of the values that differ from those before, from the entry with this number on
abbrev pub change_lines : ℕ → List (List Tern) → List (List Tern) → List ℕ
change_lines number (old ∷ olds) (new ∷ news) =
    (if same_value old new then [] else value_line number new) ++ change_lines (number + 1) olds news
change_lines number olds news = []
