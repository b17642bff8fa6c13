-- The codes of a dump's entries: their numbers in digits `!` to `~`, the lowest first.
-- IEEE Standard 1364, section 18.
use Rattle.std.specs.Prelude.{ℕ, zero, suc, ◌+◌, ◌-◌, ◌*◌, ◌/◌, ◌%◌, List, [], ◌∷◌, nat_lt, if◌then◌else◌}

-- the first digit, `!`
abbrev pub first_digit : ℕ
first_digit = 33

-- how many digits there are, up to `~`
abbrev pub digits : ℕ
digits = 94

-- the digits of a number, the lowest first, at most so many
abbrev pub code_in : ℕ → ℕ → List ℕ
code_in zero number = []
code_in (suc most) number =
    (first_digit + number % digits) ∷ (if nat_lt number digits then [] else code_in most (number / digits))

-- the code of the entry with this number
abbrev pub code_of : ℕ → List ℕ
code_of number = code_in (suc number) number

-- the number that a code stands for
abbrev pub number_of : List ℕ → ℕ
number_of [] = 0
number_of (digit ∷ code) = (digit - first_digit) + digits * number_of code
