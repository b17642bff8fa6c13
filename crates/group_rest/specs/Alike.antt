-- Groups that two graphs share, and what both graphs say of them alike.
-- After Beatty and Bryant, "Fast Incremental Circuit Analysis Using Extracted Hierarchy", 1988.
use Rattle.std.specs.Prelude.{◌≡◌, ℕ, ◌↔◌, List, Contains}
use Rattle.ternary.specs.declared.tern.Tern.{Tern}
use Rattle.switch_paths.specs.Graphs.{GraphData, IsWired, level_of, place_at}
use Rattle.group_meaning.specs.Groups.{Group, IsGroup}
use Rattle.group_text.specs.Texts.{text_of_group, local_nodes}
use Rattle.group_rest.specs.Rest.{Reads, Rests}

-- a group of both graphs, whose switches stand at the same places in both and whose members have the same levels
pub record IsAlike (g h : GraphData) (group : Group) : Type 0 where
  pub here : IsGroup g group
  pub there : IsGroup h group
  pub places : (place : ℕ) → Contains group.switches place → place_at h.places place ≡ place_at g.places place
  pub levels : (node : ℕ) → Contains group.members node → level_of h node ≡ level_of g node

-- such a group has one text, over the same nodes
abbrev pub AlikeGroupsHaveOneText : Type 0
AlikeGroupsHaveOneText =
    (g h : GraphData) (group : Group) → IsAlike g h group →
    (local_nodes h group ≡ local_nodes g group) × (text_of_group h group ≡ text_of_group g group)

-- it reads the same nodes
abbrev pub AlikeGroupsReadAlike : Type 0
AlikeGroupsReadAlike =
    (g h : GraphData) (group : Group) → IsWired g → IsWired h → IsAlike g h group → (node : ℕ) → Reads h group node ↔ Reads g group node

-- and it rests in the same states
abbrev pub AlikeGroupsRestAlike : Type 0
AlikeGroupsRestAlike =
    (g h : GraphData) (group : Group) (state : List Tern) → IsWired g → IsWired h → IsAlike g h group →
    Rests h state group.members ↔ Rests g state group.members
