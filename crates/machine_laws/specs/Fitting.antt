-- Which graphs a machine covers, and which it fits.
-- After Bryant, Beatty, Brace, Cho and Sheffler, "COSMOS: A Compiled Simulator for MOS Circuits", 1987.
use Rattle.std.specs.Prelude.{◌≡◌, ◌≢◌, ℕ, ◌<◌, ◌↔◌, ◌⊎◌, List, [], length, take, count_by, Contains, IsTrue, Option, Some, None, slice_get, slice_index_or}
use Rattle.std.specs.declared.rc.Rc.{Rc}
use Rattle.std.proofs.Common.{Global}
use Rattle.ternary.specs.declared.tern.Tern.{Tern}
use Rattle.switch_paths.specs.Graphs.{GraphData, IsStorage, IsWired, nodes}
use Rattle.switch_paths.specs.Rails.{IsRailed, IsSound}
use Rattle.group_meaning.specs.Groups.{Group, IsGroup, AreGroups}
use Rattle.channel_groups.specs.Grouping.{GroupsData, AreOf}
use Rattle.group_text.specs.Texts.{GroupTextData, text_of_group, local_nodes}
use Rattle.group_text.specs.FirstTexts.{is_among, first_texts}
use Rattle.group_rest.specs.Rest.{Reads, Rests}
use Rattle.group_rest.specs.Alike.{IsAlike}
use Rattle.vicinity.specs.Touching.{RestsAsleep}
use Rattle.vicinity.specs.Wides.{WideData}
use Rattle.straight_code.specs.Code.{CodeData}
use Rattle.group_analysis.specs.Meaning.{MeansText}
use Rattle.circuit_texts.specs.Sizes.{fault_in, refused_in}
use Rattle.circuit_texts.specs.Told.{told}
use Rattle.machine_parts.specs.declared.part.MachinePart.{MachinePart}
use Rattle.machine_parts.specs.Parts.{Stands, AreApart, has_members}
use Rattle.wide_groups.specs.Moving.{HasStaleOnly}
use Rattle.machine_laws.specs.Machines.{MachineData}
use Rattle.machine_parts.specs.Marking.{IsMarked}

-- the code means the group's text, the map has the text's nodes, and the part reads what the group reads
pub record IsCoded (g : GraphData) (group : Group) (part : MachinePart) (code : CodeData) : Type 0 where
  pub mapped : part.map.items ≡ local_nodes g group
  pub means : MeansText (text_of_group g group) code
  pub reads : (node : ℕ) → Contains part.reads.items node ↔ Reads g group node

-- the part is that of the group: it has the group's members, and what code it has is the group's
pub record IsPartOf (g : GraphData) (group : Group) (part : MachinePart) : Type 0 where
  pub is_group : IsGroup g group
  pub count : part.members ≡ length group.members
  pub members : take part.members part.map.items ≡ group.members
  pub coded : (code : Rc CodeData Global) → part.code ≡ Some code → IsCoded g group part code.value

-- some part is that of the group
pub record HasPart (g : GraphData) (parts : List MachinePart) (group : Group) : Type 0 where
  pub k : ℕ
  pub part : MachinePart
  pub stands : Stands parts k part
  pub is_part : IsPartOf g group part

-- the text is the group's, which isn't too large
pub record IsTextOf (g : GraphData) (group : Group) (text : Option GroupTextData) : Type 0 where
  pub same : text ≡ Some (text_of_group g group)
  pub fits : fault_in group ≡ None

-- the part with this text or none is that of a group that isn't refused and stands alike in the graph of the groups that are stepped by vicinities;
-- if the group has a text, the part has one; its members that are asleep rest
pub record IsHeldIn (g : GraphData) (state : List Tern) (wide : WideData) (text : Option GroupTextData) (part : MachinePart) : Type 0 where
  pub group : Group
  pub is_part : IsPartOf g group part
  pub allowed : refused_in wide.large group ≡ None
  pub told : fault_in group ≡ None → text ≢ None
  pub wired : IsWired wide.graph
  pub alike : IsAlike g wide.graph group
  pub rests : RestsAsleep wide.graph state group.members wide.touched.list

-- no member of the part is a storage node of this graph
abbrev pub IsOutside : GraphData → MachinePart → Type 0
IsOutside g part = (node : ℕ) → Contains (take part.members part.map.items) node → ¬ IsStorage g node

-- the machine steps by vicinities the group of the part with this number
abbrev pub IsHeld : GraphData → MachineData → ℕ → MachinePart → Type 0
IsHeld g m k part = (wide : WideData) × (m.wide ≡ Some wide) × IsHeldIn g m.state wide (slice_index_or m.uses k None) part

-- a machine covers a graph: its groups are those of the graph, each has a part, and each part with a member is that of a group; a
-- part with a text has its group's, one with code has a text, and one without members has none; one without code reads nothing, and is marked
-- where it has a member, so is stale; and the members of a part that isn't marked rest. If the groups are known that are stepped by vicinities,
-- their members are those of stale parts, and each stale part is that of one of these groups or has no member of any
pub record Covers (g : GraphData) (m : MachineData) : Type 0 where
  pub groups : GroupsData
  pub kept : m.groups ≡ Some groups
  pub are : AreOf g groups
  pub counted : length m.state ≡ nodes g
  pub each : (i : ℕ) (group : Group) → slice_get groups.groups i ≡ Some group → HasPart g m.parts group
  pub whole : (k : ℕ) (part : MachinePart) → Stands m.parts k part → 0 < part.members → (group : Group) × IsPartOf g group part
  pub apart : AreApart m.parts
  pub number : count_by has_members m.parts ≡ length groups.groups
  pub known : (k : ℕ) (part : MachinePart) → Stands m.parts k part → slice_index_or m.uses k None ≢ None → (group : Group) → IsPartOf g group part →
      IsTextOf g group (slice_index_or m.uses k None)
  pub numbered : (k : ℕ) (part : MachinePart) → Stands m.parts k part → 0 < part.members → part.code ≢ None → slice_index_or m.uses k None ≢ None
  pub textless : (k : ℕ) (part : MachinePart) → Stands m.parts k part → part.members ≡ 0 → slice_index_or m.uses k None ≡ None
  pub uses_counted : length m.uses ≡ length m.parts
  pub quiet : (k : ℕ) (part : MachinePart) → Stands m.parts k part → part.code ≡ None → part.reads.items ≡ []
  pub waits : (k : ℕ) (part : MachinePart) → Stands m.parts k part → 0 < part.members → part.code ≡ None → IsMarked m.marks k
  pub rests : (k : ℕ) (part : MachinePart) → Stands m.parts k part → ¬ IsMarked m.marks k →
      Rests g m.state (take part.members part.map.items)
  pub stale_only : (wide : WideData) → m.wide ≡ Some wide → HasStaleOnly m.parts wide.graph
  pub held : (wide : WideData) → m.wide ≡ Some wide → (k : ℕ) (part : MachinePart) → Stands m.parts k part → 0 < part.members → part.code ≡ None →
      IsHeldIn g m.state wide (slice_index_or m.uses k None) part ⊎ IsOutside wide.graph part

-- a machine fits a graph: it covers it, no part is stale unless it is stepped by vicinities, the rails are held, and it counts the distinct texts of
-- the groups that have one
pub record FitsGraph (g : GraphData) (m : MachineData) : Type 0 where
  pub covers : Covers g m
  pub coded : (k : ℕ) (part : MachinePart) → Stands m.parts k part → 0 < part.members → part.code ≡ None → IsHeld g m k part
  pub railed : IsRailed g
  pub sound : IsSound m.state
  pub texts : (groups : List Group) → AreGroups g groups → m.texts ≡ length (first_texts (told g groups))

-- the group of each stale part is too large for a text
abbrev pub AreUntold : GraphData → List MachinePart → Type 0
AreUntold g parts = (k : ℕ) (part : MachinePart) (group : Group) → Stands parts k part → part.code ≡ None → IsPartOf g group part →
    fault_in group ≢ None

-- each stale part whose group has a text has one
abbrev pub AreTold : GraphData → MachineData → Type 0
AreTold g m =
    (k : ℕ) (part : MachinePart) (group : Group) → Stands m.parts k part → part.code ≡ None → IsPartOf g group part → fault_in group ≡ None →
    slice_index_or m.uses k None ≢ None

-- what so leads from a machine that fits a graph to another one is this for their states, and the other one fits the graph
abbrev pub LeadsToFitting : (MachineData → MachineData → Type 0) → (GraphData → List Tern → List Tern → Type 0) → Type 0
LeadsToFitting Leads Is =
    (g : GraphData) (old new : MachineData) → IsWired g → FitsGraph g old → Leads old new → Is g old.state new.state × FitsGraph g new

-- every text that a part has is among these
abbrev pub IsKeptBy : GraphData → List GroupTextData → MachineData → Type 0
IsKeptBy g kept m =
    (k : ℕ) (part : MachinePart) → Stands m.parts k part → slice_index_or m.uses k None ≢ None → (group : Group) → IsPartOf g group part →
    IsTrue (is_among kept (text_of_group g group))
