-- Lists of always closed switches that join the rails: within each group the shortest, and of these the first by numbers; and single
-- switches between the rails.
use Rattle.std.specs.Prelude.{◌≡◌, ℕ, ◌<◌, ◌⊎◌, ⊤, List, [], ◌∷◌, length, map, slice_index, All, Contains}
use Rattle.std.specs.List.Sorted.{IsStrictlyIncreasing}
use Rattle.switch_paths.specs.declared.TheConstants.{GND, VDD}
use Rattle.switch_paths.specs.Graphs.{GraphData, IsStorage}
use Rattle.group_meaning.specs.Groups.{Group, IsGroup}
use Rattle.circuit_lint.specs.Conducting.{IsClosedAcross}

-- always closed switches at these places lead from the node to Gnd, end to end, over storage nodes alone
abbrev pub LeadsDown : GraphData → List ℕ → ℕ → Type 0
LeadsDown g [] node = node ≡ GND
LeadsDown g (place ∷ places) node = IsStorage g node × ((next : ℕ) × IsClosedAcross g place node next × LeadsDown g places next)

-- always closed switches at these places lead from Vdd into the group, and on to Gnd over storage nodes; so all nodes between are members
pub record JoinsRails (g : GraphData) (group : Group) (places : List ℕ) : Type 0 where
  pub first : ℕ
  pub rest : List ℕ
  pub splits : places ≡ first ∷ rest
  pub node : ℕ
  pub member : Contains group.members node
  pub enters : IsClosedAcross g first VDD node
  pub down : LeadsDown g rest node

-- the numbers are the same, or less at the first difference
abbrev pub AreFirst : List ℕ → List ℕ → Type 0
AreFirst [] others = ⊤
AreFirst (number ∷ numbers) [] = ⊥
AreFirst (number ∷ numbers) (other ∷ others) = (number < other) ⊎ ((number ≡ other) × AreFirst numbers others)

-- a list is shorter than another, or as long and not behind it by its numbers
abbrev pub GoesBefore : List ℕ → List ℕ → Type 0
GoesBefore places others = (length places < length others) ⊎ ((length places ≡ length others) × AreFirst places others)

-- the list joins the rails through the group, and goes before each list that does
pub record IsShortOf (g : GraphData) (group : Group) (places : List ℕ) : Type 0 where
  pub joins : JoinsRails g group places
  pub first : (others : List ℕ) → JoinsRails g group others → GoesBefore places others

-- the list is one always closed switch between the rails
pub record IsShortAlone (g : GraphData) (places : List ℕ) : Type 0 where
  pub place : ℕ
  pub alone : places ≡ place ∷ []
  pub joins : IsClosedAcross g place VDD GND

-- the list is that of some group, or one switch alone
abbrev pub IsShort : GraphData → List ℕ → Type 0
IsShort g places = IsShortAlone g places ⊎ ((group : Group) × IsGroup g group × IsShortOf g group places)

-- a list's first number
abbrev pub first_of : List ℕ → ℕ
first_of places = slice_index places 0

-- all these lists, in ascending order; no two of them begin with one switch, so the first numbers say it
pub record AreShorts (g : GraphData) (shorts : List (List ℕ)) : Type 0 where
  pub each : All (IsShort g) shorts
  pub whole : (places : List ℕ) → IsShort g places → Contains shorts places
  pub ascending : IsStrictlyIncreasing (map first_of shorts)
