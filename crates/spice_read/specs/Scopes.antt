-- What the names on a deck's cards stand for: outside every call, and in a call.
-- After the subcircuits of Nagel, "SPICE2: A Computer Program to Simulate Semiconductor Circuits", 1975, in this project's profile.
use Rattle.std.specs.Prelude.{ℕ, ◌-◌, ◌||◌, List, [], ◌∷◌, ◌++◌, Bool, length, map, take, drop, zip, bytes_eq, codes, is_some, Option, Some, None, if◌then◌else◌}
use Rattle.netlist.specs.Names.{rail_of}
use Rattle.spice_cards.specs.Decks.{DeckCards}
use Rattle.spice_cards.specs.Reading.{word_at}
use Rattle.spice_cards.specs.Tables.{named}

-- where parts are expanded: the path of their call, none outside every call; the lines of the subcircuits that are being expanded; and
-- the ports of their subcircuit with the nodes that they stand for
pub record Scope : Type 0 where
  pub path : Option (List ℕ)
  pub expanding : List ℕ
  pub ports : List (List ℕ × List ℕ)

-- outside every call
abbrev pub outside : Scope
outside = record { path = None; expanding = []; ports = [] }

-- the byte `.`, between the names of a path
abbrev pub dot : ℕ
dot = 46

-- `0`, the name of Gnd on cards
abbrev pub is_zero : List ℕ → Bool
is_zero name = bytes_eq name (codes "0")

-- `0` is Gnd, and each other name stands for itself
abbrev pub fixed_node : List ℕ → List ℕ
fixed_node name = if is_zero name then codes "Gnd" else name

-- the name spells a rail: `Gnd`, `Gnd!`, `Vdd` or `Vdd!` in any ASCII case
abbrev pub is_rail : List ℕ → Bool
is_rail name = is_some (rail_of name)

-- the name means in every call what it means outside: it is `0`, spells a rail, or is global
abbrev pub is_fixed : DeckCards → List ℕ → Bool
is_fixed deck name = is_zero name || is_rail name || is_some (named deck.globals name)

-- what has this name in a call of this path; outside every call the name alone
abbrev pub below : Option (List ℕ) → List ℕ → List ℕ
below None name = name
below (Some path) name = path ++ dot ∷ name

-- the node of a name in a call, by the node that it has as a port: that one, else its own if it is fixed, else one of the call alone
abbrev pub node_by : DeckCards → List ℕ → List ℕ → Option (List ℕ) → List ℕ
node_by deck path name (Some node) = node
node_by deck path name None = if is_fixed deck name then fixed_node name else below (Some path) name

-- the node of a name, by the path of the call
abbrev pub node_at : DeckCards → List (List ℕ × List ℕ) → List ℕ → Option (List ℕ) → List ℕ
node_at deck ports name None = fixed_node name
node_at deck ports name (Some path) = node_by deck path name (named ports name)

-- the node that a name stands for
abbrev pub node_in : DeckCards → Scope → List ℕ → List ℕ
node_in deck scope name = node_at deck scope.ports name scope.path

-- the table with this for the name, whatever it stood for
abbrev pub with_last : List (List ℕ × List ℕ) → List ℕ → List ℕ → List (List ℕ × List ℕ)
with_last [] name node = (name, node) ∷ []
with_last (entry ∷ entries) name node =
    if bytes_eq name entry.0 then (entry.0, node) ∷ entries else entry ∷ with_last entries name node

-- the table with each of these in turn, so that of a name the last one counts
abbrev pub with_each : List (List ℕ × List ℕ) → List (List ℕ × List ℕ) → List (List ℕ × List ℕ)
with_each entries [] = entries
with_each entries (port ∷ ports) = with_each (with_last entries port.0 port.1) ports

-- the nodes on a call's card: the words between its name and its subcircuit
abbrev pub nodes_of : List (List ℕ) → List (List ℕ)
nodes_of words = take (length words - 2) (drop 1 words)

-- the subcircuit that a call's card names: its last word
abbrev pub subcircuit_named : List (List ℕ) → List ℕ
subcircuit_named words = word_at words (length words - 1)

-- the ports of a subcircuit with the nodes on the card of its call, at the same places
abbrev pub port_nodes : DeckCards → Scope → List (List ℕ) → List (List ℕ) → List (List ℕ × List ℕ)
port_nodes deck scope ports nodes = zip ports (map (node_in deck scope) nodes)

-- inside a call, by the words of its card, and by the line and the ports of its subcircuit
abbrev pub called : DeckCards → Scope → List (List ℕ) → ℕ → List (List ℕ) → Scope
called deck scope words line ports = record {
  path = Some (below scope.path (word_at words 0));
  expanding = scope.expanding ++ line ∷ [];
  ports = with_each [] (port_nodes deck scope ports (nodes_of words));
}
