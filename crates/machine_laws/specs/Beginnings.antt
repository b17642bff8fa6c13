-- The nodes at which parts begin, and the texts of parts in the order of these nodes.
-- After Beatty and Bryant, "Fast Incremental Circuit Analysis Using Extracted Hierarchy", 1988.
use Rattle.std.specs.Prelude.{◌≡◌, ℕ, List, Contains, Option, None, Some, slice_index_or}
use Rattle.std.specs.List.{AllZip}
use Rattle.std.specs.List.Sorted.{IsStrictlyIncreasing}
use Rattle.switch_paths.specs.Graphs.{GraphData}
use Rattle.group_meaning.specs.Groups.{Group, AreGroups}
use Rattle.group_text.specs.Texts.{GroupTextData}
use Rattle.circuit_texts.specs.Told.{told}
use Rattle.machine_parts.specs.declared.part.MachinePart.{MachinePart}
use Rattle.machine_parts.specs.Parts.{Stands, IsMemberAt}

-- the part with this number begins at the node, which is its first member
pub record BeginsAt (parts : List MachinePart) (k node : ℕ) : Type 0 where
  pub part : MachinePart
  pub stands : Stands parts k part
  pub first : IsMemberAt part 0 node

-- some part that begins at the node has this, of what stands for each part
pub record Begins {X : Type 0} (parts : List MachinePart) (all : List (Option X)) (node : ℕ) (x : X) : Type 0 where
  pub k : ℕ
  pub at : BeginsAt parts k node
  pub has : slice_index_or all k None ≡ Some x

-- these are the texts of the parts that have one, in the order of the nodes at which the parts begin
pub record AreInOrder (parts : List MachinePart) (uses : List (Option GroupTextData)) (texts : List GroupTextData) : Type 0 where
  pub places : List ℕ
  pub ascending : IsStrictlyIncreasing places
  pub each : AllZip (Begins parts uses) places texts
  pub all : (node : ℕ) (text : GroupTextData) → Begins parts uses node text → Contains places node

-- these are the texts of those of the graph's groups that have one, in order
abbrev pub HasLast : GraphData → List GroupTextData → Type 0
HasLast g texts = (groups : List Group) → AreGroups g groups → texts ≡ told g groups
