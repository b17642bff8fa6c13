-- A machine that is led from one graph to another, by the edits between them.
use Rattle.std.specs.Prelude.{◌≡◌, ◌≢◌, ◌⊎◌, ℕ, ◌<◌, ◌≤◌, List, [], length, slice_set, Contains, Option, None, Some, IfSome}
use Rattle.switch_paths.specs.Graphs.{GraphData, level_of, nodes, place_at}
use Rattle.group_meaning.specs.Groups.{Group}
use Rattle.group_rest.specs.Alike.{IsAlike}
use Rattle.group_text.specs.Texts.{GroupTextData}
use Rattle.machine_parts.specs.declared.part.MachinePart.{MachinePart}
use Rattle.machine_parts.specs.Parts.{Stands}
use Rattle.machine_laws.specs.Machines.{MachineData}
use Rattle.machine_laws.specs.Fitting.{IsPartOf, Covers, IsKeptBy}
use Rattle.edits_between.specs.declared.differing.Differences.{Differences}
use Rattle.edits_between.specs.declared.differing.Spot.{Spot}
use Rattle.edits_between.specs.declared.differing.Spot.TheVariants.{Node, Place}

-- each part of the machine that has code is that of a group that stands alike in both graphs
abbrev pub CodedAreAlike : GraphData → GraphData → MachineData → Type 0
CodedAreAlike base g m =
    (k : ℕ) (part : MachinePart) → Stands m.parts k part → part.code ≢ None → (group : Group) → IsPartOf g group part → IsAlike base g group

-- each of the first so many parts of the machine is that of a group that stands alike in both graphs
abbrev pub EarlyAreAlike : GraphData → ℕ → GraphData → MachineData → Type 0
EarlyAreAlike base count g m =
    (k : ℕ) (part : MachinePart) → Stands m.parts k part → k < count → (group : Group) → IsPartOf g group part → IsAlike base g group

-- the machine covers the graph that it was led to, has the state and the texts of the last build that it had, has no text that wasn't kept, and its parts
-- that have code are those of groups that stand alike in any graph in which they did, and so are those that it had before
pub record Led (g h : GraphData) (old new : MachineData) : Type 0 where
  pub covers : Covers h new
  pub last : new.last ≡ old.last
  pub state : new.state ≡ old.state
  pub known : (kept : List GroupTextData) → IsKeptBy g kept old → IsKeptBy h kept new
  pub alike : (base : GraphData) → CodedAreAlike base g old → CodedAreAlike base h new
  pub more : length old.parts ≤ length new.parts
  pub early : (base : GraphData) (count : ℕ) → count ≤ length old.parts → EarlyAreAlike base count g old → EarlyAreAlike base count h new

-- so it is if there is a machine
abbrev pub LedIn : GraphData → GraphData → Option MachineData → Option MachineData → Type 0
LedIn g h None new = new ≡ None
LedIn g h (Some old) new = (machine : MachineData) × (new ≡ Some machine) × Led g h old machine

-- it was led by way of another graph, where it had so many parts: the parts that have code are those of groups that stand alike there, and so are those
-- that it had there
abbrev pub LedBy : GraphData → GraphData → GraphData → ℕ → Option MachineData → Option MachineData → Type 0
LedBy f g h count old new = LedIn f h old new × IfSome new (CodedAreAlike g h) × IfSome new (EarlyAreAlike g count h)

-- so many parts a machine has, if there is one
abbrev pub HasParts : ℕ → Option MachineData → Type 0
HasParts count slot = IfSome slot (λ machine. count ≡ length machine.parts)

-- the texts of the last build, if there is a machine
abbrev pub last_in : Option MachineData → List GroupTextData
last_in None = []
last_in (Some machine) = machine.last

-- the graph with what stands at this place in the target
abbrev pub with_place_of : GraphData → GraphData → ℕ → GraphData
with_place_of target g place = record g { places = slice_set g.places place (place_at target.places place) }

-- the graph with this node's level in the target
abbrev pub with_level_of : GraphData → GraphData → ℕ → GraphData
with_level_of target g node = record g { levels = slice_set g.levels node (level_of target node) }

-- the graph with what the target has at this spot
abbrev pub with_spot_of : GraphData → GraphData → Spot → GraphData
with_spot_of target g (Place place) = with_place_of target g place
with_spot_of target g (Node node) = with_level_of target g node

-- the graph has as many nodes and places
pub record IsAsLarge (g h : GraphData) : Type 0 where
  pub nodes_are : nodes h ≡ nodes g
  pub places_are : length h.places ≡ length g.places

-- at each place but those that are left the same stands in both graphs, and each node but those has the same level
pub record AreSameBut (Left : Spot → Type 0) (g h : GraphData) : Type 0 where
  pub by_place : (place : ℕ) → place < length g.places → Left (Place place) ⊎ (place_at g.places place ≡ place_at h.places place)
  pub by_node : (node : ℕ) → node < nodes g → Left (Node node) ⊎ (level_of g node ≡ level_of h node)

-- two graphs differ at these spots alone
abbrev pub DifferAt : GraphData → GraphData → Differences → Type 0
DifferAt g h differences = AreSameBut (Contains differences.spots.items) g h
