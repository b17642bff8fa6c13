-- Counts that stay at the last value of their type.
use Rattle.std.specs.Prelude.{ℕ, ◌+◌, ◌-◌, ◌^◌, min}

-- a count after so many more, as far as a u64 goes
abbrev pub raised : ℕ → ℕ → ℕ
raised count more = count + min more (2 ^ 64 - 1 - count)
