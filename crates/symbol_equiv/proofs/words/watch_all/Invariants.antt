-- With the words that are left all are watched.
use Rattle.std.proofs.Common.{◌≡◌, ◌++◌, drop}
use Rattle.symbol_equiv.proofs.words.watch_all.Given as goal

abbrev pub invariant-loop-word : goal.invariant-loop-word
invariant-loop-word l =
    record l.notes { words = l.notes.words ++ drop l.word-index l.words } ≡ record l.fn.notes { words = l.fn.notes.words ++ l.words }
