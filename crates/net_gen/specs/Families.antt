-- The whole texts that the generator writes.
use Rattle.std.specs.Prelude.{ℕ, Bool, nat_le, ◌&&◌, List, ◌++◌, codes}
use Rattle.net_gen.specs.Lines.{each, turns}
use Rattle.net_gen.specs.Inverters.{inverter, inverters_start, inverters_turn}
use Rattle.net_gen.specs.Passes.{pass_row, passes_start, passes_turn}
use Rattle.net_gen.specs.Columns.{column, columns_start, columns_turn}
use Rattle.net_gen.specs.declared.families.TheConstants.{MOST_ROWS}
use Rattle.net_gen.specs.declared.families.GenKind.{GenKind}
use Rattle.net_gen.specs.declared.families.GenKind.TheVariants.{Inverters, Passes, Columns}
use Rattle.net_gen.specs.declared.families.GenPart.{GenPart}
use Rattle.net_gen.specs.declared.families.GenPart.TheVariants.{Net, Script}

-- a text may have so many rows: one at least, and `MOST_ROWS` at most
abbrev pub is_row_count : ℕ → Bool
is_row_count rows = nat_le 1 rows && nat_le rows MOST_ROWS

-- the first line of every netlist
abbrev pub header : List ℕ
header = codes "| units: 1 tech: cosmos format: MIT\n"

-- the lines of row r of a family's netlist, counted from 1
abbrev pub row : GenKind → ℕ → List ℕ
row Inverters r = inverter r
row Passes r = pass_row r
row Columns r = column r

-- how a family's script for n rows starts
abbrev pub script_start : GenKind → ℕ → List ℕ
script_start Inverters n = inverters_start n
script_start Passes n = passes_start n
script_start Columns n = columns_start n

-- how many turns come after that
abbrev pub turn_count : GenKind → ℕ
turn_count Inverters = 4
turn_count Passes = 16
turn_count Columns = 16

-- how many draws a turn takes
abbrev pub draws_in_turn : GenKind → ℕ
draws_in_turn Inverters = 1
draws_in_turn Passes = 10
draws_in_turn Columns = 3

-- a turn, with the draws from this seed after the first `drawn`
abbrev pub turn : GenKind → ℕ → ℕ → List ℕ
turn Inverters seed drawn = inverters_turn seed drawn
turn Passes seed drawn = passes_turn seed drawn
turn Columns seed drawn = columns_turn seed drawn

-- a family's netlist of n rows, below its header; it takes no draws
abbrev pub netlist : GenKind → ℕ → List ℕ
netlist kind n = each 1 n (row kind)

-- a family's script for n rows, with the draws from this seed
abbrev pub script : GenKind → ℕ → ℕ → List ℕ
script kind seed n = script_start kind n ++ turns (turn_count kind) (draws_in_turn kind) (turn kind seed)

-- the whole text of a part: a netlist under its header, or a script
abbrev pub generated : GenKind → GenPart → ℕ → ℕ → List ℕ
generated kind Net seed n = header ++ netlist kind n
generated kind Script seed n = script kind seed n
