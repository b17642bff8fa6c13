use Rattle.std.proofs.Common.{◌≡◌, length}
use Rattle.sim_read.specs.Header.{is_rising}
use Rattle.sim_read.proofs.header.is_rising.Given as goal

-- the numbers left rise where all do
abbrev pub invariant-numbers : goal.invariant-numbers
invariant-numbers l = is_rising l.left ≡ is_rising l.numbers

abbrev pub decreases-numbers : goal.decreases-numbers
decreases-numbers l = length l.left
