-- What an edit of the graph does to a machine, and what gives its stale parts their codes.
-- After Bryant, Beatty, Brace, Cho and Sheffler, "COSMOS: A Compiled Simulator for MOS Circuits", 1987.
use Rattle.std.specs.Prelude.{◌≡◌, ◌≢◌, ℕ, ◌-◌, ◌<◌, ◌≤◌, ◌↔◌, min, Bool, true, false, List, ◌++◌, length, replicate, None, Some, slice_index_or}
use Rattle.ternary.specs.declared.tern.Tern.{Tern}
use Rattle.ternary.specs.declared.tern.Tern.TheVariants.{Unk}
use Rattle.switch_paths.specs.Graphs.{GraphData, nodes}
use Rattle.group_meaning.specs.Groups.{Group}
use Rattle.channel_groups.specs.declared.change.Change.{Change}
use Rattle.channel_groups.specs.Changes.{is_touched_now}
use Rattle.machine_parts.specs.declared.part.MachinePart.{MachinePart}
use Rattle.machine_parts.specs.Parts.{Stands, HasMember}
use Rattle.machine_laws.specs.Machines.{MachineData, groups_in}
use Rattle.machine_parts.specs.Marking.{IsMarked}
use Rattle.vicinity.specs.Wides.{WideData}
use Rattle.vicinity.specs.Growing.{GrowsWide}
use Rattle.machine_laws.specs.Fitting.{IsPartOf, IsOutside, Covers, FitsGraph}
use Rattle.machine_laws.specs.Beginnings.{HasLast}

-- these states, and X for each node more
abbrev pub with_new_nodes : List Tern → ℕ → List Tern
with_new_nodes state count = state ++ replicate (count - length state) Unk

-- the group is touched by the edit, by the groups that the machine had
abbrev pub is_touched_in : GraphData → Change → MachineData → Group → Bool
is_touched_in g change old group = is_touched_now g change (groups_in old.groups) group

-- if the groups that are stepped by vicinities are known, they are those from before, in a graph with so many nodes; and they are, if each part
-- stands that had one of their members
pub record KeepsWide (count : ℕ) (old new : MachineData) : Type 0 where
  pub known : (later : WideData) → new.wide ≡ Some later → (wide : WideData) × (old.wide ≡ Some wide) × GrowsWide count wide later
  pub stays : (wide : WideData) → old.wide ≡ Some wide →
      ((k : ℕ) (part : MachinePart) → Stands old.parts k part → (¬ IsOutside wide.graph part) → Stands new.parts k part) → new.wide ≢ None

-- the graph was edited: the machine covers it, new nodes are X and all other nodes stay, each touched group is stale and marked and has no text
-- yet, and its part came behind the others; the part of every other group stays, with its text, its code and its mark; the groups that are stepped
-- by vicinities are known still if it left them as they were
pub record Edits (g : GraphData) (change : Change) (old new : MachineData) : Type 0 where
  pub covers : Covers g new
  pub count : length old.parts ≤ length new.parts
  pub state : new.state ≡ with_new_nodes old.state (nodes g)
  pub stale : (k : ℕ) (part : MachinePart) (group : Group) → Stands new.parts k part → IsPartOf g group part →
      is_touched_in g change old group ≡ true → part.code ≡ None
  pub untold : (k : ℕ) (part : MachinePart) (group : Group) → Stands new.parts k part → IsPartOf g group part →
      is_touched_in g change old group ≡ true → slice_index_or new.uses k None ≡ None
  pub marked : (k : ℕ) (part : MachinePart) (group : Group) → Stands new.parts k part → IsPartOf g group part →
      is_touched_in g change old group ≡ true → IsMarked new.marks k
  pub later : (k : ℕ) (part : MachinePart) (group : Group) → Stands new.parts k part → IsPartOf g group part →
      is_touched_in g change old group ≡ true → length old.parts ≤ k
  pub stays : (k : ℕ) (part : MachinePart) (group : Group) → Stands new.parts k part → IsPartOf g group part →
      is_touched_in g change old group ≡ false → Stands old.parts k part
  pub texts : (k : ℕ) (part : MachinePart) (group : Group) → Stands new.parts k part → IsPartOf g group part →
      is_touched_in g change old group ≡ false → slice_index_or new.uses k None ≡ slice_index_or old.uses k None
  pub marks : (k : ℕ) (part : MachinePart) (group : Group) → Stands new.parts k part → IsPartOf g group part →
      is_touched_in g change old group ≡ false → IsMarked new.marks k ↔ IsMarked old.marks k
  pub last : new.last ≡ old.last
  pub moves : new.moves ≡ old.moves
  pub placed : new.placed ≡ old.placed
  pub wide : KeepsWide (nodes g) old new

-- the groups, the parts that had code, the marks, the states and the counts stay
pub record KeepsCoded (old new : MachineData) : Type 0 where
  pub groups : new.groups ≡ old.groups
  pub parts : (k : ℕ) (part : MachinePart) → Stands old.parts k part → part.code ≢ None → Stands new.parts k part
  pub marks : new.marks ≡ old.marks
  pub state : new.state ≡ old.state
  pub moves : new.moves ≡ old.moves
  pub placed : new.placed ≡ old.placed

-- the stale parts got their codes, or are stepped by vicinities: the machine fits the graph, whose groups' texts are those of the last build
-- from now on, each part has the members that it had, and all else stays
pub record Finishes (g : GraphData) (old new : MachineData) : Type 0 where
  pub fits : FitsGraph g new
  pub last : HasLast g new.last
  pub members : (k node : ℕ) → HasMember new.parts k node ↔ HasMember old.parts k node
  pub still : KeepsCoded old new
  pub open still use *

-- the same, but the texts of the last build are still those from before
pub record MakesReady (g : GraphData) (old new : MachineData) : Type 0 where
  pub fits : FitsGraph g new
  pub last : new.last ≡ old.last
  pub members : (k node : ℕ) → HasMember new.parts k node ↔ HasMember old.parts k node
  pub still : KeepsCoded old new
  pub open still use *

-- if each part that is stale now was one of the groups that were stepped by vicinities before, they are known as before, but that none of them
-- has more members than so many either
abbrev pub StaysKnown : ℕ → MachineData → MachineData → Type 0
StaysKnown large old new =
    (wide : WideData) → old.wide ≡ Some wide →
    ((k : ℕ) (part : MachinePart) → Stands new.parts k part → 0 < part.members → part.code ≡ None → ¬ IsOutside wide.graph part) →
    new.wide ≡ Some (record wide { large = min wide.large large })
