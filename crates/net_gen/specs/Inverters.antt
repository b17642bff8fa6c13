-- The texts of the family `inverters`: a chain of inverters from w0 on.
use Rattle.std.specs.Prelude.{ℕ, ◌+◌, ◌-◌, ◌%◌, List, ◌++◌, codes, decimal}
use Rattle.net_gen.specs.Draws.{draw}

-- the lines of the i-th inverter, counted from 1
unfoldable pub inverter : ℕ → List ℕ
inverter i =
    codes "p w" ++ decimal (i - 1) ++ codes " Vdd w" ++ decimal i ++ codes "\n"
    ++ codes "n w" ++ decimal (i - 1) ++ codes " Gnd w" ++ decimal i ++ codes "\n"

-- a turn of the script, which takes the draw after the first `drawn`: w0 becomes it modulo 2
unfoldable pub inverters_turn : ℕ → ℕ → List ℕ
inverters_turn seed drawn =
    codes "set w0=" ++ decimal (draw seed (drawn + 1) % 2) ++ codes "\nphase\n"

-- the start of the script: inputs, watched nodes, and the limit of steps
unfoldable pub inverters_start : ℕ → List ℕ
inverters_start n = codes "input w0\nwatch w0 w" ++ decimal n ++ codes "\nlimit 1000000\n"
