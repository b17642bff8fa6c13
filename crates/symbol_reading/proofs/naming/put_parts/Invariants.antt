-- The names so far are there.
use Rattle.std.proofs.Common.{◌≡◌, ◌++◌, flat_map, take}
use Rattle.symbol_lines.specs.Names.{names_in_part}
use Rattle.symbol_reading.proofs.naming.put_parts.Given as goal

abbrev pub invariant-loop-part : goal.invariant-loop-part
invariant-loop-part l = l.names ≡ l.fn.names ++ flat_map names_in_part (take l.part-index l.parts)
