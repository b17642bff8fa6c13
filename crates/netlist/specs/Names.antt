-- The names of a circuit: the node that each stands for, and the first name of each node.
use Rattle.std.specs.Prelude.{◌≡◌, ℕ, Bool, ◌||◌, ◌==◌, List, [], ◌∷◌, map, codes, bytes_eq, slice_get, Option, Some, None, if◌then◌else◌}
use Rattle.std.specs.Char.{to_ascii_lowercase}
use Rattle.switch_paths.specs.declared.TheConstants.{GND, VDD}

-- the name is this word, given in small letters, in any ASCII case
abbrev pub spells : List ℕ → List ℕ → Bool
spells name word = bytes_eq (map to_ascii_lowercase name) word

-- the rail that a name spells: `Gnd`, `Gnd!`, `Vdd` or `Vdd!` in any ASCII case
abbrev pub rail_of : List ℕ → Option ℕ
rail_of name =
    if spells name (codes "gnd") || spells name (codes "gnd!") then Some GND
    else (if spells name (codes "vdd") || spells name (codes "vdd!") then Some VDD else None)

-- the node of a name among names with their nodes, compared byte by byte
abbrev pub held : List (List ℕ × ℕ) → List ℕ → Option ℕ
held [] name = None
held (entry ∷ entries) name = if bytes_eq name entry.0 then Some entry.1 else held entries name

-- the rail, where the name spells one, else the node under which the name is held
abbrev pub rail_or_held : Option ℕ → Option ℕ → Option ℕ
rail_or_held (Some rail) named = Some rail
rail_or_held None named = named

-- the node of a name, if the name is in use
abbrev pub node_of : List (List ℕ × ℕ) → List ℕ → Option ℕ
node_of names name = rail_or_held (rail_of name) (held names name)

-- no name stands at two places, whatever its nodes
abbrev pub StandOnce : List (List ℕ × ℕ) → Type 0
StandOnce names =
    (i j : ℕ) (name : List ℕ) (one other : ℕ) → slice_get names i ≡ Some (name, one) → slice_get names j ≡ Some (name, other) → i ≡ j

-- the first name that a node got, if it has one
abbrev pub first_name : List (List ℕ × ℕ) → ℕ → Option (List ℕ)
first_name [] node = None
first_name (entry ∷ entries) node = if entry.1 == node then Some entry.0 else first_name entries node

-- what a node is called: `Gnd` and `Vdd` the rails, by its first name any other node
abbrev pub name_at : List (List ℕ × ℕ) → ℕ → Option (List ℕ)
name_at names node =
    if node == GND then Some (codes "Gnd") else (if node == VDD then Some (codes "Vdd") else first_name names node)
