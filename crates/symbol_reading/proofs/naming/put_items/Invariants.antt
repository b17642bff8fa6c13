-- The names so far are there.
use Rattle.std.proofs.Common.{◌≡◌, ◌++◌, flat_map, take}
use Rattle.symbol_lines.specs.Names.{names_in_item}
use Rattle.symbol_reading.proofs.naming.put_items.Given as goal

abbrev pub invariant-loop-item : goal.invariant-loop-item
invariant-loop-item l = l.names ≡ l.fn.names ++ flat_map names_in_item (take l.item-index l.items)
