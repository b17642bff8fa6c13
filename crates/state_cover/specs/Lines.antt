-- The lines that tell what each node never had.
use Rattle.std.specs.Prelude.{ℕ, ◌-◌, Bool, ◌&&◌, ◌||◌, not, List, [], ◌++◌, length, count_by, drop, flat_map, codes, decimal, if◌then◌else◌}
use Rattle.switch_paths.specs.Graphs.{nodes}
use Rattle.switch_paths.specs.declared.TheConstants.{RAILS}
use Rattle.netlist.specs.Circuits.{CircuitData, called}
use Rattle.settling.specs.PlainStepping.{numbers_from}
use Rattle.state_cover.specs.declared.had.Had.{Had}
use Rattle.state_cover.specs.Cover.{had_at}

-- the node had both
abbrev pub had_both : Had → Bool
had_both had = had.zero && had.one

-- the node had none of them
abbrev pub had_none : Had → Bool
had_none had = not (had.zero || had.one)

-- the node had one of them and not the other
abbrev pub had_one : Had → Bool
had_one had = not (had_both had || had_none had)

-- what a node never had: `0`, `1` or `01`, and nothing if it had both
abbrev pub never_of : Had → List ℕ
never_of had = (if had.zero then [] else codes "0") ++ (if had.one then [] else codes "1")

-- the line of a node that lacks something: `cover <name> <never>`; none of a node that had both
abbrev pub node_line_of : List ℕ → Had → List ℕ
node_line_of name had = if had_both had then [] else (codes "cover " ++ name ++ codes " " ++ never_of had ++ codes "\n")

-- the lines of nodes, in order
abbrev pub node_lines_of : CircuitData → List Had → List ℕ → List ℕ
node_lines_of c hads numbers = flat_map (λ node. node_line_of (called c node) (had_at hads node)) numbers

-- the line of counts: `cover nodes <nodes> both <both> one <one> none <none>`
abbrev pub counts_of : ℕ → ℕ → ℕ → ℕ → List ℕ
counts_of nodes both one none =
    codes "cover nodes " ++ decimal nodes ++ codes " both " ++ decimal both ++ codes " one " ++ decimal one ++ codes " none " ++ decimal none ++ codes "\n"

-- the counts of nodes by what they had
abbrev pub counts_line_of : List Had → List ℕ
counts_line_of hads = counts_of (length hads) (count_by had_both hads) (count_by had_one hads) (count_by had_none hads)

-- the cover of a circuit: the lines of its nodes but the rails, and their counts
abbrev pub cover_text : CircuitData → List Had → List ℕ
cover_text c hads = node_lines_of c hads (numbers_from RAILS (nodes c.graph - RAILS)) ++ counts_line_of (drop RAILS hads)
