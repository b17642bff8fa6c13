-- A machine that was led to the good graph, from there to the fault's, and then finished: each part that it had there stands alike in both graphs.
use Rattle.std.proofs.Common.{◌≡◌, ℕ, ◌<◌, ◌↔◌, inl, inr, length, subst, arith}
use Rattle.std.specs.Prelude.{Contains}
use Rattle.std.proofs.lemmas.Bool.{cases_lt}
use Rattle.switch_paths.specs.Graphs.{GraphData}
use Rattle.group_meaning.specs.Groups.{Group, id_of}
use Rattle.group_meaning.proofs.UniqueGroups.{id_member, same_by_member}
use Rattle.group_rest.specs.Alike.{IsAlike}
use Rattle.machine_parts.specs.declared.part.MachinePart.{MachinePart}
use Rattle.machine_parts.specs.Parts.{HasMember, Stands}
use Rattle.machine_laws.specs.Machines.{MachineData}
use Rattle.machine_laws.specs.Fitting.{Covers, IsPartOf}
use Rattle.machine_laws.proofs.PartGroups.{member_in_group, member_of_part}
use Rattle.vicinity.specs.NodeSets.{IsIn, NodeSetData}
use Rattle.beside_run.specs.Running.{AreAlikeBut, HasLater}

-- a part that isn't behind the first so many is one of them
not_later : (count : ℕ) (m : MachineData) (touched : NodeSetData) (k : ℕ) → HasLater count m touched → k < length m.parts → (¬ IsIn touched.inside k) →
    k < count
not_later count m touched k has inside out =
    elim (cases_lt k count) [
      | inl below ↦ below
      | inr past ↦ absurd (out (has.all k past inside))
    ]

-- so each of the parts that are left of the first so many is that of a group that stands alike, once the others got their codes too
pub alike_finished : (g h : GraphData) (count : ℕ) (m new : MachineData) (touched : NodeSetData) →
    ((k : ℕ) (part : MachinePart) → Stands m.parts k part → k < count → (group : Group) → IsPartOf h group part → IsAlike g h group) →
    Covers h m → HasLater count m touched → length new.parts ≡ length m.parts → ((k node : ℕ) → HasMember new.parts k node ↔ HasMember m.parts k node) →
    AreAlikeBut g h new touched.inside
alike_finished g h count m new touched alike covers has counted members k part stands out group is_part =
    let inside : k < length m.parts = subst (λ n. k < n) counted stands.inside in
    let early : k < count = not_later count m touched k has inside out in
    let node : ℕ = id_of group in
    let here : Contains group.members node = id_member h group is_part.is_group in
    let (place, at) = member_of_part h group part is_part node here in
    let was : HasMember m.parts k node = (members k node).0 (record { part = part; stands = stands; place = place; member = at }) in
    let (stood_group, stood) = covers.whole k was.part was.stands (omega (arith, was.member.inside)) in
    let there : Contains stood_group.members node = member_in_group h stood_group was.part stood was.place node was.member in
    let same : stood_group ≡ group = same_by_member h stood_group group stood.is_group is_part.is_group node there here in
    subst (IsAlike g h) same (alike k was.part was.stands early stood_group stood)
