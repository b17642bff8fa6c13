-- What is found of the parts that wait before they get their codes.
use Rattle.std.specs.Prelude.{◌≡◌, ◌≢◌, ℕ, ◌<◌, ◌⊎◌, ◌↔◌, Bool, true, List, [], ◌∷◌, ◌++◌, length, map, filter, All, Contains, Option, None, Some, slice_get}
use Rattle.std.specs.List.{AllZip}
use Rattle.switch_paths.specs.Graphs.{GraphData, nodes}
use Rattle.group_meaning.specs.Groups.{Group, AreGroups, id_of}
use Rattle.group_text.specs.Texts.{GroupTextData, text_of_group, local_nodes}
use Rattle.circuit_texts.specs.declared.sizes.GroupSizes.{GroupSizes}
use Rattle.circuit_texts.specs.Sizes.{fault_in}
use Rattle.channel_groups.specs.Grouping.{IsId}
use Rattle.circuit_texts.specs.Choosing.{chosen}
use Rattle.circuit_texts.specs.Told.{with_text, without_text}
use Rattle.circuit_texts.specs.Reading.{AreReads}
use Rattle.kept_parts.specs.Uses.{count_distinct}
use Rattle.vicinity.specs.Wides.{WideData}
use Rattle.machine_parts.specs.declared.part.MachinePart.{MachinePart}
use Rattle.machine_parts.specs.Parts.{Stands, HasMember, IsStale}
use Rattle.machine_parts.specs.Making.{IsFormed}
use Rattle.unit_step.specs.declared.waking.Waking.{Waking}
use Rattle.unit_step.specs.declared.waking.Risen.{Risen}
use Rattle.machine_laws.specs.Machines.{MachineData, groups_in}
use Rattle.machine_laws.specs.Fitting.{IsPartOf}
use Rattle.machine_laws.specs.Editing.{KeepsCoded}
use Rattle.machine_laws.specs.Holding.{IsReady}
use Rattle.machine_laws.specs.Finishing.{IsFresh, IsSlotOf, AreWaiting, HasCodeIn, LoosensHeld}
use Rattle.unit_step.specs.Holding.{IsPassed, GoesOn}

-- the least node comes behind the others, unless it is passed over
abbrev pub AddsUnlessPassed : ℕ → Option WideData → ℕ → List ℕ → List ℕ → Type 0
AddsUnlessPassed large wide node old new = ((new ≡ old) × IsPassed large wide node) ⊎ (new ≡ old ++ node ∷ [])

-- the ids of the groups that are due, of those that have a text and of those that have none. Each group that is due has a stale part, and each other
-- group that has one is passed over. The machine counts its distinct texts
pub record AreDue (g : GraphData) (m : MachineData) (large : ℕ) (sizes : GroupSizes) : Type 0 where
  pub are : AreGroups g (groups_in m.groups)
  pub due : Group → Bool
  pub told : chosen (groups_in m.groups) sizes.told.items ≡ with_text (filter due (groups_in m.groups))
  pub without : chosen (groups_in m.groups) sizes.large.items ≡ without_text (filter due (groups_in m.groups))
  pub told_ids : All (λ id. IsId (groups_in m.groups) id.node) sizes.told.items
  pub slot : (group : Group) → Contains (groups_in m.groups) group → due group ≡ true → (k : ℕ) × IsSlotOf g m.parts group k
  pub all : (k : ℕ) (part : MachinePart) (group : Group) → Stands m.parts k part → part.code ≡ None → IsPartOf g group part →
      (due group ≡ true) ⊎ IsPassed large m.wide (id_of group)
  pub texts : m.texts ≡ count_distinct m.uses

-- the parts that are made for the groups that wait, in these slots
pub record AreMade (g : GraphData) (some : List Group) (slots : List ℕ) (old fresh : List MachinePart) (count : ℕ) : Type 0 where
  pub fresh_are : AllZip (IsFresh g) some fresh
  pub formed : All (IsFormed count) fresh
  pub below : All (λ part. All (λ node. node < count) part.reads.items) fresh
  pub counted : length fresh ≡ length slots
  pub long : length some ≡ length slots
  pub inside : All (λ k. k < length old) slots

-- those groups that have a text and whose parts wait: the numbers of the parts, and the texts
pub record AreOfWaiting (g : GraphData) (m : MachineData) (slots : List ℕ) (told : List GroupTextData) : Type 0 where
  pub groups : List Group
  pub are : AreGroups g groups
  pub some : List Group
  pub waiting : AreWaiting g m.parts m.uses groups some slots
  pub fit : All (λ group. fault_in group ≡ None) some
  pub texts : told ≡ map (text_of_group g) some

-- what is found of them: the numbers of their parts, and for each its text, the nodes that the text's local nodes stand for, and the nodes that it
-- reads
pub record IsWaking (g : GraphData) (m : MachineData) (waking : Waking) : Type 0 where
  pub of : AreOfWaiting g m waking.slots.items waking.texts.items
  pub open of use *
  pub maps : map (λ nodes. nodes.items) waking.maps.items ≡ map (local_nodes g) some
  pub reads : AllZip (λ group list. AreReads g group list.items) some waking.reads.items

-- what the parts of those groups become: those that are to have no code read nothing, and none gets code whose group is stepped by vicinities. The
-- last list has the slots of those that get it
pub record IsRisen (g : GraphData) (m : MachineData) (risen : Risen) : Type 0 where
  pub of : AreOfWaiting g m risen.slots.items risen.texts.items
  pub open of use *
  pub made : AreMade g some risen.slots.items m.parts risen.parts.items (nodes g)
  pub coded : (k : ℕ) → Contains risen.coded.items k ↔ HasCodeIn risen.slots.items risen.parts.items k
  pub free : LoosensHeld m.wide risen.parts.items

-- each of these parts has code
abbrev pub HaveCode : List MachinePart → Type 0
HaveCode parts = (i : ℕ) (part : MachinePart) → slice_get parts i ≡ Some part → part.code ≢ None

-- the stale parts of groups with a text got their texts, those in these slots their codes, and all else stays: the members of stale parts are those
-- that were, but for those of the slots
pub record Wakes (g : GraphData) (coded : List ℕ) (old new : MachineData) : Type 0 where
  pub ready : IsReady g new
  pub last : new.last ≡ old.last
  pub wide : new.wide ≡ old.wide
  pub stale : (k : ℕ) → IsStale new.parts k ↔ GoesOn old.parts coded k
  pub members : (k node : ℕ) → HasMember new.parts k node ↔ HasMember old.parts k node
  pub still : KeepsCoded old new
  pub open still use *
