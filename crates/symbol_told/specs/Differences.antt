-- The lines of two circuits that are compared, by what the code has of them.
use Rattle.std.specs.Prelude.{ℕ, ◌==◌, List, ◌++◌, codes, decimal, if◌then◌else◌}
use Rattle.symbol_meaning.specs.Comparing.{Difference}
use Rattle.symbol_told.specs.declared.differences.DifferenceShown as code

-- a difference of the code
abbrev pub difference_seen : code.DifferenceShown → Difference
difference_seen own = record { line = own.line; word = own.word.now; one = own.one.now; other = own.other.now; truths = own.truths.now }

-- the last line, by the numbers of waveform lines and of differences
abbrev pub counted_text : ℕ → ℕ → List ℕ
counted_text waves differences =
    if differences == 0 then codes "equal " ++ decimal waves ++ codes "\n" else codes "different " ++ decimal differences ++ codes "\n"
