-- A machine as contracts see it, and what a step and a placing make of it.
-- After Bryant, Beatty, Brace, Cho and Sheffler, "COSMOS: A Compiled Simulator for MOS Circuits", 1987.
use Rattle.std.specs.Prelude.{ℕ, Bool, List, [], Option, None, Some, ◌≡◌, ◌⊎◌, length, slice_set, Contains}
use Rattle.ternary.specs.declared.tern.Tern.{Tern}
use Rattle.group_meaning.specs.Groups.{Group}
use Rattle.channel_groups.specs.Grouping.{GroupsData}
use Rattle.group_text.specs.Texts.{GroupTextData}
use Rattle.machine_parts.specs.declared.part.MachinePart.{MachinePart}
use Rattle.machine_parts.specs.Parts.{IsStale}
use Rattle.machine_parts.specs.Marking.{IsMarked}
use Rattle.machine_parts.specs.Stepping.{Remarks, Concerns}
use Rattle.vicinity.specs.Touching.{SwitchChanges}
use Rattle.vicinity.specs.Wides.{WideData}
use Rattle.wide_groups.specs.Moving.{graph_in, touched_in, MovesIn, RetouchesIn, PlacesIn}

-- the groups that the machine has, if it was built for a graph; its parts, the text of each that has a group and code, and whether each
-- is marked; the state of each node; the number of distinct texts; the texts of the groups at the last build, in order; how often a step
-- changed the state, and how often a member was placed from outside; for how many nodes more there is room; and the groups that are stepped
-- by vicinities, if they are known
pub record MachineData : Type 0 where
  pub groups : Option GroupsData
  pub parts : List MachinePart
  pub uses : List (Option GroupTextData)
  pub marks : List Bool
  pub state : List Tern
  pub texts : ℕ
  pub last : List GroupTextData
  pub moves : ℕ
  pub placed : ℕ
  pub spare : ℕ
  pub wide : Option WideData

-- the groups that a machine has; one that wasn't built for a graph has none
abbrev pub groups_in : Option GroupsData → List Group
groups_in None = []
groups_in (Some held) = held.groups

-- the groups, the texts of the last build and the room stay
pub record KeepsBuild (old new : MachineData) : Type 0 where
  pub groups : new.groups ≡ old.groups
  pub last : new.last ≡ old.last
  pub spare : new.spare ≡ old.spare

-- the parts, their texts, and how many different ones these are, stay
pub record KeepsParts (old new : MachineData) : Type 0 where
  pub parts : new.parts ≡ old.parts
  pub uses : new.uses ≡ old.uses
  pub texts : new.texts ≡ old.texts

-- a step, plain or joining, but for its marks: nodes move, and all else stays but the counts
pub record Steps (joining : Bool) (old new : MachineData) : Type 0 where
  pub moves : MovesIn joining old.parts old.marks old.wide old.state new.state
  pub wide : RetouchesIn joining old.wide new.wide old.state new.state
  pub build : KeepsBuild old new
  pub open build use *
  pub held : KeepsParts old new
  pub open held use *

-- a step, plain or joining: nodes move, marks follow, and all else stays but the count of moves
pub record Advances (joining : Bool) (old new : MachineData) : Type 0 where
  pub step : Steps joining old new
  pub open step use *
  pub marks : Remarks joining old.parts old.marks old.state new.state new.marks
  pub placed : new.placed ≡ old.placed

-- of the groups that are stepped by vicinities those nodes alone are touched at which a switch changed between these states
abbrev pub TouchesChanged : MachineData → List Tern → List Tern → Type 0
TouchesChanged m old new = (node : ℕ) → Contains (touched_in m.wide) node → SwitchChanges (graph_in m.wide) old new node

-- nothing is left to do: stale parts alone are marked, since their groups are stepped by vicinities, and no node of these is touched
pub record IsAtRest (m : MachineData) : Type 0 where
  pub marks : (k : ℕ) → IsMarked m.marks k → IsStale m.parts k
  pub untouched : touched_in m.wide ≡ []

-- a node is placed: it has the value, the parts that it concerns are marked, and all else stays but the count of placed members
pub record Places (node : ℕ) (value : Tern) (old new : MachineData) : Type 0 where
  pub state : new.state ≡ slice_set old.state node value
  pub count : length new.marks ≡ length old.marks
  pub stays : (k : ℕ) → IsMarked old.marks k → IsMarked new.marks k
  pub concerns : (k : ℕ) → Concerns old.parts k node → IsMarked new.marks k
  pub only : (k : ℕ) → IsMarked new.marks k → IsMarked old.marks k ⊎ Concerns old.parts k node
  pub wide : PlacesIn node old.wide new.wide old.state new.state
  pub build : KeepsBuild old new
  pub open build use *
  pub held : KeepsParts old new
  pub open held use *
  pub moves : new.moves ≡ old.moves
