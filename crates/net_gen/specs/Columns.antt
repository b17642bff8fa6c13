-- The texts of the family `columns`: columns of four storage cells between two bit lines.
use Rattle.std.specs.Prelude.{ℕ, ◌+◌, ◌-◌, ◌%◌, ◌==◌, List, ◌++◌, codes, decimal, if◌then◌else◌}
use Rattle.net_gen.specs.Draws.{draw}
use Rattle.net_gen.specs.Lines.{each}

-- the lines of the bit lines b and m of column c: their sizes, and the transistors that drive them
unfoldable pub bit_lines : ℕ → List ℕ
bit_lines c =
    codes "A b" ++ decimal c ++ codes " size:2\n"
    ++ codes "A m" ++ decimal c ++ codes " size:2\n"
    ++ codes "n we d b" ++ decimal c ++ codes " g=strength:3\n"
    ++ codes "n we k m" ++ decimal c ++ codes " g=strength:3\n"

-- the numbers in the names of cell j of column c
abbrev pub place : ℕ → ℕ → List ℕ
place c j = decimal c ++ codes "_" ++ decimal j

-- the line of a weak transistor of cell j of column c: its kind and gate, then its rail and drain
unfoldable pub weak : List ℕ → List ℕ → ℕ → ℕ → List ℕ
weak gate drain c j = gate ++ place c j ++ drain ++ place c j ++ codes " g=strength:1\n"

-- the line of a transistor that word line j controls, from a bit line of column c to a node of cell j
unfoldable pub access : List ℕ → List ℕ → ℕ → ℕ → List ℕ
access bit_line node c j =
    codes "n w" ++ decimal j ++ bit_line ++ decimal c ++ node ++ place c j ++ codes "\n"

-- the lines of cell j of column c: an inverter from z to q, one from q to z, and a pass to each bit line
unfoldable pub cell : ℕ → ℕ → List ℕ
cell c j =
    weak (codes "p z") (codes " Vdd q") c j ++ weak (codes "n z") (codes " Gnd q") c j
    ++ weak (codes "p q") (codes " Vdd z") c j ++ weak (codes "n q") (codes " Gnd z") c j
    ++ access (codes " b") (codes " q") c j ++ access (codes " m") (codes " z") c j

-- the lines of column c, counted from 1: its bit lines, then its cells 0 to 3
unfoldable pub column : ℕ → List ℕ
column c = bit_lines c ++ each 0 4 (cell c)

-- the value of word line i where line j is chosen: 1 if they are the same, else 0
unfoldable pub chosen : ℕ → ℕ → ℕ
chosen j i = if i == j then 1 else 0

-- the settings of a turn: word line j is chosen, with we at v and d at t, and then j and we become 0
unfoldable pub column_settings : ℕ → ℕ → ℕ → List ℕ
column_settings j v t =
    codes "set we=" ++ decimal v ++ codes " d=" ++ decimal t ++ codes " k=" ++ decimal (1 - t)
    ++ codes " w0=" ++ decimal (chosen j 0) ++ codes " w1=" ++ decimal (chosen j 1)
    ++ codes " w2=" ++ decimal (chosen j 2) ++ codes " w3=" ++ decimal (chosen j 3)
    ++ codes "\nphase\nset w" ++ decimal j ++ codes "=0 we=0\nphase\n"

-- a turn of the script, which takes the three draws after the first `drawn`: the word line, then
-- whether it writes, then the value
unfoldable pub columns_turn : ℕ → ℕ → List ℕ
columns_turn seed drawn =
    column_settings
    (draw seed (drawn + 1) % 4) (draw seed (drawn + 2) % 2) (draw seed (drawn + 3) % 2)

-- the start of the script: inputs and watched nodes
unfoldable pub columns_start : ℕ → List ℕ
columns_start n =
    codes "input we d k w0 w1 w2 w3\nwatch b1 m1 b" ++ decimal n ++ codes " m" ++ decimal n ++ codes "\n"
