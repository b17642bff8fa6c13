-- The stand-ins of the assignments before this one.
use Rattle.std.proofs.Common.{◌≡◌, ◌++◌, drop, map}
use Rattle.symbol_giving.specs.StandIns.{stand_in}
use Rattle.symbol_giving.proofs.standing.stand_list.Given as goal

abbrev pub invariant-loop-own : goal.invariant-loop-own
invariant-loop-own l = l.values ++ map (stand_in l.circuit l.vectors) (drop l.own-index l.list) ≡ map (stand_in l.circuit l.vectors) l.list
