-- The texts of the family `passes`: rows of nine pass transistors in series.
use Rattle.std.specs.Prelude.{ℕ, ◌+◌, ◌-◌, ◌%◌, ◌==◌, List, ◌++◌, codes, decimal, if◌then◌else◌}
use Rattle.net_gen.specs.Draws.{draw}
use Rattle.net_gen.specs.Lines.{each}

-- the j-th transistor of row r below its first, both counted from 1
unfoldable pub pass : ℕ → ℕ → List ℕ
pass r j =
    codes "n c" ++ decimal j ++ codes " r" ++ decimal r ++ codes "_" ++ decimal (j - 1)
    ++ codes " r" ++ decimal r ++ codes "_" ++ decimal j ++ codes "\n"

-- the lines of row r, counted from 1
unfoldable pub pass_row : ℕ → List ℕ
pass_row r = codes "n en d r" ++ decimal r ++ codes "_0\n" ++ each 1 8 (pass r)

-- the letter that a draw stands for: `0`, `1` or `X` if it is 0, 1 or 2 modulo 3
unfoldable pub letter_of : ℕ → List ℕ
letter_of number =
    if number % 3 == 0 then codes "0" else (if number % 3 == 1 then codes "1" else codes "X")

-- the setting of control wire j, counted from 1, where `drawn` draws came before that of c1
unfoldable pub control : ℕ → ℕ → ℕ → List ℕ
control seed drawn j = codes " c" ++ decimal j ++ codes "=" ++ letter_of (draw seed (drawn + j))

-- a turn of the script, which takes the ten draws after the first `drawn`, from left to right
unfoldable pub passes_turn : ℕ → ℕ → List ℕ
passes_turn seed drawn =
    codes "set d=" ++ letter_of (draw seed (drawn + 1))
    ++ codes " en=" ++ letter_of (draw seed (drawn + 2))
    ++ each 1 8 (control seed (drawn + 2))
    ++ codes "\nphase\n"

-- the start of the script: inputs and watched nodes
unfoldable pub passes_start : ℕ → List ℕ
passes_start n = codes "input d en c1 c2 c3 c4 c5 c6 c7 c8\nwatch r1_8 r" ++ decimal n ++ codes "_8\n"
