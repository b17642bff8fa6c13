-- The words that ask for a talk, or for a dump.
use Rattle.std.specs.Prelude.{ℕ, List, [], ◌∷◌, codes, bytes_eq, if◌then◌else◌, Option, Some, None}

-- the name of the netlist or the deck of which words ask for a talk: `talk NET`
abbrev pub talk_net : List (List ℕ) → Option (List ℕ)
talk_net (command ∷ net ∷ []) = if bytes_eq command (codes "talk") then Some net else None
talk_net words = None

-- the names of the netlist or the deck, and of the script, for whose run words ask for a dump: `vcd NET SCRIPT`
abbrev pub dump_names : List (List ℕ) → Option (List ℕ × List ℕ)
dump_names (command ∷ net ∷ script ∷ []) = if bytes_eq command (codes "vcd") then Some (net, script) else None
dump_names words = None
