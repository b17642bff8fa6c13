-- The names so far are there.
use Rattle.std.proofs.Common.{◌≡◌, ◌++◌, flat_map, take}
use Rattle.symbol_reading.specs.Reading.{names_in_assignment}
use Rattle.symbol_reading.proofs.naming.put_assignments.Given as goal

abbrev pub invariant-loop-own : goal.invariant-loop-own
invariant-loop-own l = l.names ≡ l.fn.names ++ flat_map names_in_assignment (take l.own-index l.list)
