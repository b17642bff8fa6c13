use Rattle.std.proofs.Common.{◌≡◌}
use Rattle.sim_read.specs.Header.{is_second}
use Rattle.sim_read.proofs.header.names_second.Given as goal

-- one of the words left is the one, if one of all words is
abbrev pub invariant-loop-word : goal.invariant-loop-word
invariant-loop-word l = is_second l.word-iterator ≡ is_second l.fn.words
