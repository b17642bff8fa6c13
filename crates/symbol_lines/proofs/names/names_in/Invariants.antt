-- The names before the place are there.
use Rattle.std.proofs.Common.{◌≡◌, take}
use Rattle.symbol_lines.specs.Names.{keys_of}
use Rattle.symbol_lines.proofs.names.names_in.Given as goal

abbrev pub invariant-loop-place : goal.invariant-loop-place
invariant-loop-place l = l.list ≡ take l.place (keys_of l.table.keys)
