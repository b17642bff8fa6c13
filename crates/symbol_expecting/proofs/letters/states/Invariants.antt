-- The states of the nodes before this one.
use Rattle.std.proofs.Common.{◌≡◌, take}
use Rattle.symbol_expecting.specs.Telling.{states_under}
use Rattle.symbol_expecting.proofs.letters.states.Given as goal

abbrev pub invariant-loop-k : goal.invariant-loop-k
invariant-loop-k l = l.states.items ≡ states_under l.stage (take l.k l.pairs) l.vars
