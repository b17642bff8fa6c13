use Rattle.std.proofs.Common.{◌≡◌, ◌+◌, length}
use Rattle.node_words.specs.Patterns.{behind_some, matches}
use Rattle.node_words.proofs.patterns.matches_behind.Given as goal

-- the pattern that is left behind a `*` matches the name that is left exactly if the whole one does
abbrev pub invariant-loop-next : goal.invariant-loop-next
invariant-loop-next l = behind_some (matches l.pattern) l.name ≡ behind_some (matches l.fn.pattern) l.fn.name

abbrev pub decreases-loop-next : goal.decreases-loop-next
decreases-loop-next l = length l.pattern + length l.name
