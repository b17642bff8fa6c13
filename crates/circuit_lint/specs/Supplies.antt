-- Names that supplies have in netlists, and nodes other than the rails that have one.
use Rattle.std.specs.Prelude.{◌≡◌, ℕ, ◌<◌, ◌-◌, Bool, true, ◌&&◌, ◌||◌, ◌==◌, nat_lt, nat_le, List, [], ◌∷◌, length, take, drop, codes, position, filter_map, slice_index, slice_index_or, Option, None, if◌then◌else◌}
use Rattle.std.specs.List.{list_any, list_all, range_with_len}
use Rattle.switch_paths.specs.declared.TheConstants.{RAILS}
use Rattle.switch_paths.specs.Graphs.{nodes}
use Rattle.netlist.specs.Names.{spells}
use Rattle.netlist.specs.Circuits.{CircuitData}

-- the words for supplies, in small letters
abbrev pub supply_words : List (List ℕ)
supply_words =
    codes "vdd" ∷ codes "vcc" ∷ codes "vss" ∷ codes "gnd" ∷ codes "vpwr" ∷ codes "vgnd" ∷ codes "vdd!" ∷ codes "vcc!" ∷ codes "vss!" ∷ codes "gnd!" ∷ []

-- a byte parts the names of a hierarchy: `/`, `.` or `:`
abbrev pub is_separator : ℕ → Bool
is_separator byte = (byte == 47) || ((byte == 46) || (byte == 58))

-- a byte is an ASCII digit
abbrev pub is_digit : ℕ → Bool
is_digit byte = nat_le 48 byte && nat_le byte 57

-- nothing, or `#` and digits behind it
abbrev pub is_number_or_end : List ℕ → Bool
is_number_or_end [] = true
is_number_or_end (byte ∷ digits) = (byte == 35) && (nat_lt 0 (length digits) && list_all is_digit digits)

-- the bytes are a word in any ASCII case, to their end or to a number
abbrev pub spells_to_number : List ℕ → List ℕ → Bool
spells_to_number part word = spells (take (length word) part) word && is_number_or_end (drop (length word) part)

-- the bytes are a word for a supply, to their end or to a number
abbrev pub is_supply_part : List ℕ → Bool
is_supply_part part = list_any (spells_to_number part) supply_words

-- a part of the name begins at the place: at the name's front, or behind a separator
abbrev pub begins_part : List ℕ → ℕ → Bool
begins_part name place = (place == 0) || is_separator (slice_index name (place - 1))

-- a part begins there that is a word for a supply, to the name's end or to a number
abbrev pub is_supply_at : List ℕ → ℕ → Bool
is_supply_at name place = begins_part name place && is_supply_part (drop place name)

-- the last part of the name, before a number, is a word for a supply: no word has a separator and no number has, so a part that goes to the
-- name's end like this is the last
abbrev pub is_supply_name : List ℕ → Bool
is_supply_name name = list_any (is_supply_at name) (range_with_len 0 (length name))

-- a name in use is that of a supply, and stands for this node
abbrev pub names_supply : ℕ → (List ℕ × ℕ) → Bool
names_supply node entry = (entry.1 == node) && is_supply_name entry.0

-- the place, among the names in the order in which they came into use, of a node's first name of a supply; a rail has none
abbrev pub supply_place : CircuitData → ℕ → Option ℕ
supply_place c node = if nat_le RAILS node then position (names_supply node) c.names else None

-- these places, by ascending node
abbrev pub supplies_of : CircuitData → List ℕ
supplies_of c = filter_map (supply_place c) (range_with_len 0 (nodes c.graph))

-- a table has of each node the place of its first name of a supply among the first names in use, so many of them
pub record AreFirstSupplies (c : CircuitData) (count : ℕ) (firsts : List (Option ℕ)) : Type 0 where
  pub size : length firsts ≡ nodes c.graph
  pub each : (node : ℕ) → node < nodes c.graph → slice_index_or firsts node None ≡ position (names_supply node) (take count c.names)
