-- The letters of the items before this one.
use Rattle.std.proofs.Common.{◌≡◌, ◌++◌, drop, map}
use Rattle.symbol_giving.specs.StandIns.{stand_letter}
use Rattle.symbol_giving.proofs.standing.stand_letters.Given as goal

abbrev pub invariant-loop-item : goal.invariant-loop-item
invariant-loop-item l = l.letters.items ++ map stand_letter (drop l.item-index l.items) ≡ map stand_letter l.items
