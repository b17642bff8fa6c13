use Rattle.std.proofs.Common.{◌≡◌}
use Rattle.spice_cards.specs.CardSorts.{strength_after, strength_of}
use Rattle.spice_cards.proofs.cards.strength_of.Given as goal

-- the words that are left give from the strength so far what all words give
abbrev pub invariant-loop-word : goal.invariant-loop-word
invariant-loop-word l = strength_after l.strength l.word-iterator ≡ strength_of l.fn.words
