use Rattle.std.proofs.Common.{◌≡◌, take}
use Rattle.netlist.specs.Naming.{entries_of}
use Rattle.netlist.proofs.names.copy_table.Given as goal

abbrev pub invariant-loop-place : goal.invariant-loop-place
invariant-loop-place l = entries_of l.copy.entries ≡ take l.place (entries_of l.table.entries)
