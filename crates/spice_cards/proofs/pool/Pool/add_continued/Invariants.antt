use Rattle.std.proofs.Common.{◌≡◌}
use Rattle.spice_cards.specs.CardLines.{continued}
use Rattle.spice_cards.specs.Pools.{taken, with_words}
use Rattle.spice_cards.proofs.pool.Pool.add_continued.Given as goal

-- with the words of the lines that are left the pool is as with those of all lines
abbrev pub invariant-loop-line : goal.invariant-loop-line
invariant-loop-line l =
    with_words l.self (taken l.plain (continued l.line-iterator)) ≡ with_words l.fn.self (taken l.plain (continued l.fn.later))
