-- The lines of the findings, by their kinds, and the line of their numbers. Each ends with LF.
use Rattle.std.specs.Prelude.{ℕ, ◌+◌, List, [], ◌++◌, length, codes, decimal, flat_map, option_map, unwrap_or, slice_get}
use Rattle.netlist.specs.Circuits.{CircuitData, called}
use Rattle.circuit_lint.specs.declared.counted.Counted.{Counted}
use Rattle.circuit_lint.specs.declared.sides.Sides.{Sides}
use Rattle.circuit_lint.specs.Findings.{FindingsData}

-- a blank and a number
abbrev pub number_after : ℕ → List ℕ
number_after number = codes " " ++ decimal number

-- a blank and the number of the transistor at a place
abbrev pub switch_after : ℕ → List ℕ
switch_after place = number_after (place + 1)

-- `shorted <K..>`
abbrev pub short_line : List ℕ → List ℕ
short_line places = codes "shorted" ++ flat_map switch_after places ++ codes "\n"

-- a word, and a blank and a node's first name
abbrev pub named_line : CircuitData → List ℕ → ℕ → List ℕ
named_line c word node = word ++ codes " " ++ called c node

-- `floating <name> <n>`
abbrev pub floating_line : CircuitData → Counted → List ℕ
floating_line c counted = named_line c (codes "floating") counted.number ++ number_after counted.count ++ codes "\n"

-- the line of a group under this word: its name, and how many nodes it has
abbrev pub group_line : CircuitData → List ℕ → Sides → List ℕ
group_line c word sides = named_line c word sides.node ++ number_after sides.nodes ++ codes "\n"

-- `dead <K> <n>`
abbrev pub dead_line : Counted → List ℕ
dead_line counted = codes "dead" ++ switch_after counted.number ++ number_after counted.count ++ codes "\n"

-- the name at a place, among the names in the order in which they came into use
abbrev pub name_in_use : CircuitData → ℕ → List ℕ
name_in_use c place = unwrap_or (option_map (λ entry. entry.0) (slice_get c.names place)) []

-- `supply <name>`
abbrev pub supply_line : CircuitData → ℕ → List ℕ
supply_line c place = codes "supply " ++ name_in_use c place ++ codes "\n"

-- `wide <name> <n> <s>`
abbrev pub wide_line : CircuitData → Sides → List ℕ
wide_line c sides = named_line c (codes "wide") sides.node ++ number_after sides.nodes ++ number_after sides.switches ++ codes "\n"

-- `unused <name>`
abbrev pub unused_line : CircuitData → ℕ → List ℕ
unused_line c node = named_line c (codes "unused") node ++ codes "\n"

-- `lint shorted A floating B undriven C never-one D never-zero E dead F supply G wide H unused I`
abbrev pub numbers_line : FindingsData → List ℕ
numbers_line found =
    codes "lint shorted" ++ number_after (length found.shorted) ++ codes " floating" ++ number_after (length found.floating)
    ++ codes " undriven" ++ number_after (length found.undriven) ++ codes " never-one" ++ number_after (length found.never_one)
    ++ codes " never-zero" ++ number_after (length found.never_zero) ++ codes " dead" ++ number_after (length found.dead)
    ++ codes " supply" ++ number_after (length found.supply) ++ codes " wide" ++ number_after (length found.wide)
    ++ codes " unused" ++ number_after (length found.unused) ++ codes "\n"

-- the lines of all findings, and the line of their numbers
abbrev pub text_of : CircuitData → FindingsData → List ℕ
text_of c found =
    flat_map short_line found.shorted ++ flat_map (floating_line c) found.floating
    ++ flat_map (group_line c (codes "undriven")) found.undriven ++ flat_map (group_line c (codes "never-one")) found.never_one
    ++ flat_map (group_line c (codes "never-zero")) found.never_zero ++ flat_map dead_line found.dead
    ++ flat_map (supply_line c) found.supply ++ flat_map (wide_line c) found.wide ++ flat_map (unused_line c) found.unused
    ++ numbers_line found
