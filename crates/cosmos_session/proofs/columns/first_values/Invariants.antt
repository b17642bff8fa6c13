use Rattle.std.proofs.Common.{◌≡◌, ◌++◌, drop, map}
use Rattle.column_script.specs.Commands.{alone_of, value_in}
use Rattle.cosmos_session.proofs.columns.first_values.Given as goal

abbrev pub invariant-loop-name : goal.invariant-loop-name
invariant-loop-name l = l.values ++ map alone_of (map (value_in 0) (drop l.name-index l.list)) ≡ map alone_of (map (value_in 0) l.list)
