use Rattle.std.proofs.Common.{◌≡◌}
use Rattle.sim_read.specs.Items.{strength_of}
use Rattle.sim_read.proofs.items.strength_by_words.Given as goal

-- the words left give from the strength so far what all words give from the usual one
abbrev pub invariant-loop-word : goal.invariant-loop-word
invariant-loop-word l = strength_of l.profile l.strength l.word-iterator ≡ strength_of l.profile l.usual l.fn.words
