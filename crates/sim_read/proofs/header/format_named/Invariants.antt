use Rattle.std.proofs.Common.{◌≡◌}
use Rattle.sim_read.specs.Header.{format_of}
use Rattle.sim_read.proofs.HeaderLemmas.{format_after}
use Rattle.sim_read.proofs.header.format_named.Given as goal

-- the words left name the format that all words name
abbrev pub invariant-loop-word : goal.invariant-loop-word
invariant-loop-word l = format_after l.is_next l.word-iterator ≡ format_of l.fn.words
