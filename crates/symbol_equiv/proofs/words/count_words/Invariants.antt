-- The words so far, and those that are left, are all.
use Rattle.std.proofs.Common.{◌≡◌, ◌++◌, drop}
use Rattle.symbol_equiv.specs.Words.{counted_words}
use Rattle.symbol_equiv.proofs.words.count_words.Given as goal

abbrev pub invariant-loop-name : goal.invariant-loop-name
invariant-loop-name l =
    l.words.items ++ counted_words l.circuit l.vectors (drop l.name-index l.names) ≡ counted_words l.circuit l.vectors l.names
