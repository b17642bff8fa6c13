use Rattle.std.proofs.Common.{◌≡◌}
use Rattle.sim_read.specs.Header.{caps_of}
use Rattle.sim_read.proofs.header.caps_named.Given as goal

-- the words left name what all words name
abbrev pub invariant-loop-word : goal.invariant-loop-word
invariant-loop-word l = caps_of l.word-iterator ≡ caps_of l.fn.words
