-- The letters of the nodes before the place are there.
use Rattle.std.proofs.Common.{◌≡◌, ◌++◌, take, map}
use Rattle.symbol_meaning.specs.Told.{letter_of_all}
use Rattle.symbol_told.proofs.putting.put_each.Given as goal

abbrev pub invariant-loop-value : goal.invariant-loop-value
invariant-loop-value l = l.out.bytes ≡ l.fn.out.bytes ++ map letter_of_all (take l.value-index l.values)
