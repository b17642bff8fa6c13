-- The numbers that the generator draws.
use Rattle.std.specs.Prelude.{ℕ, zero, suc, ◌+◌, ◌*◌, ◌/◌, ◌%◌, ◌^◌}

-- the generator's number after one draw more
abbrev pub next_number : ℕ → ℕ
next_number number = (number * 1103515245 + 12345) % 2 ^ 31

-- the generator's number after this many draws: at first the seed modulo 2 ^ 31
unfoldable pub number_after : ℕ → ℕ → ℕ
number_after seed zero = seed % 2 ^ 31
number_after seed (suc drawn) = next_number (number_after seed drawn)

-- what this draw gives, counted from 1: the number after it, divided by 65536
unfoldable pub draw : ℕ → ℕ → ℕ
draw seed count = number_after seed count / 65536
