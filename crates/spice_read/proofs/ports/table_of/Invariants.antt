use Rattle.std.proofs.Common.{◌≡◌, [], drop}
use Rattle.std.specs.List.{zip}
use Rattle.spice_read.specs.Ports.{entries_of}
use Rattle.spice_read.specs.Scopes.{with_each}
use Rattle.spice_read.proofs.ports.table_of.Given as goal

-- with the ports that are left the table is as with all ports
abbrev pub invariant-loop-place : goal.invariant-loop-place
invariant-loop-place l =
    with_each (entries_of l.table.entries) (zip (drop l.place l.ports) (drop l.place l.words))
    ≡ with_each [] (zip l.fn.ports l.fn.words)
