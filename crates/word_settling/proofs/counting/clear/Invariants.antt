use Rattle.std.proofs.Common.{◌≡◌, ℕ, ◌<◌, get_or}
use Rattle.settling.specs.declared.settling.Settled.{Settled}
use Rattle.word_settling.specs.Settling.{none_yet}
use Rattle.word_settling.proofs.counting.clear.Given as goal

abbrev pub invariant-loop-settled : goal.invariant-loop-settled
invariant-loop-settled l = (column : ℕ) (past : Settled) → column < l.settled-index → get_or l.out column past ≡ none_yet
