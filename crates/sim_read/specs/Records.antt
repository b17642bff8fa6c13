-- The records of a .sim netlist, by the first word of their lines.
use Rattle.std.specs.Prelude.{ℕ, ◌||◌, List, codes, bytes_eq, Option, Some, None, if◌then◌else◌}
use Rattle.switch_paths.specs.declared.switching.SwitchKind.TheVariants.{NChan, PChan, Always}
use Rattle.sim_read.specs.declared.records.Record.{Record}
use Rattle.sim_read.specs.declared.records.Record.TheVariants.{Transistor, Alias, Attributes, Capacitance, Passed}

-- the record that a first word begins, compared whole and with its case: `n` or `e`, `p` and `d` a transistor, `=` an alias, `A` the
-- attributes of a node, `C` a capacitance, and `c`, `R`, `r` and `N` what is passed unread
abbrev pub record_of : List ℕ → Option Record
record_of word =
    if bytes_eq word (codes "n") || bytes_eq word (codes "e") then Some (Transistor NChan)
    else (if bytes_eq word (codes "p") then Some (Transistor PChan)
    else (if bytes_eq word (codes "d") then Some (Transistor Always)
    else (if bytes_eq word (codes "=") then Some Alias
    else (if bytes_eq word (codes "A") then Some Attributes
    else (if bytes_eq word (codes "C") then Some Capacitance
    else (if bytes_eq word (codes "c") || bytes_eq word (codes "R") || bytes_eq word (codes "r") || bytes_eq word (codes "N")
    then Some Passed else None))))))
