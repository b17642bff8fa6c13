-- The letters of the states before the place are there.
use Rattle.std.proofs.Common.{◌≡◌, ◌++◌, take, map}
use Rattle.ternary.specs.Tern.{letter}
use Rattle.symbol_told.proofs.putting.put_states.Given as goal

abbrev pub invariant-loop-state : goal.invariant-loop-state
invariant-loop-state l = l.out.bytes ≡ l.fn.out.bytes ++ map letter (take l.state-index l.states)
