use Rattle.std.proofs.Common.{◌≡◌}
use Rattle.std.specs.List.{before_first}
use Rattle.spice_cards.specs.CardLines.{ends_line, kept_words}
use Rattle.spice_cards.specs.Pools.{taken, with_words}
use Rattle.spice_cards.proofs.pool.Pool.add_words.Given as goal

-- with the words that are left the pool is as with all words
abbrev pub invariant-loop-word : goal.invariant-loop-word
invariant-loop-word l =
    with_words l.self (taken l.plain (before_first ends_line l.word-iterator)) ≡ with_words l.fn.self (taken l.plain (kept_words l.bytes))
