-- The groups whose parts wait are due, but for those that are stepped by vicinities already.
use Rattle.std.proofs.Common.{◌≡◌, ◌≢◌, ℕ, ◌≤◌, Bool, true, inl, inr, ◌⊎◌, filter, take, All, None, Result, Ok, Err, sym, ap, subst}
use Rattle.std.specs.Prelude.{Contains, IfOk, IfErr, slice_index_or}
use Rattle.switch_paths.specs.Graphs.{GraphData, IsStorage}
use Rattle.group_meaning.specs.Groups.{Group, AreGroups, id_of}
use Rattle.group_meaning.proofs.UniqueGroups.{id_member}
use Rattle.channel_groups.specs.declared.group.GroupId.{GroupId}
use Rattle.channel_groups.specs.Grouping.{IsId}
use Rattle.circuit_texts.specs.declared.sizes.GroupSizes.{GroupSizes}
use Rattle.circuit_texts.specs.Sizes.{fault_in, refused_in}
use Rattle.circuit_texts.specs.Told.{with_text, without_text}
use Rattle.circuit_texts.specs.Choosing.{chosen}
use Rattle.kept_parts.specs.Uses.{count_distinct}
use Rattle.wide_groups.specs.Moving.{graph_in}
use Rattle.wide_groups.specs.Staying.{HoldsUpTo}
use Rattle.machine_parts.specs.declared.part.MachinePart.{MachinePart}
use Rattle.machine_parts.specs.Parts.{Stands}
use Rattle.machine_laws.specs.Machines.{MachineData, groups_in}
use Rattle.machine_laws.specs.Fitting.{IsPartOf, Covers}
use Rattle.machine_laws.specs.Finishing.{IsSlotOf}
use Rattle.machine_laws.proofs.HeldLemmas.{known_or_not}
use Rattle.machine_laws.proofs.HoldingGroups.{allowed_more}
use Rattle.machine_laws.proofs.PartGroups.{one_group, some_members}
use Rattle.unit_step.specs.Holding.{IsPassed}
use Rattle.unit_step.specs.Waking.{AreDue}

-- what follows of each outcome
pub if_ok : {T E : Type 0} (result : Result T E) (P Q : T → Type 0) → ((made : T) → P made → Q made) → IfOk result P → IfOk result Q
if_ok (Ok made) P Q then fact = then made fact
if_ok (Err fault) P Q then fact = tt

pub if_err : {T E : Type 0} (result : Result T E) (P Q : E → Type 0) → ((fault : E) → P fault → Q fault) → IfErr result P → IfErr result Q
if_err (Ok made) P Q then fact = tt
if_err (Err fault) P Q then fact = then fault fact

-- two facts of what was made are one
pub both_ok : {T E : Type 0} (result : Result T E) (P Q : T → Type 0) → IfOk result P → IfOk result Q → IfOk result (λ made. P made × Q made)
both_ok (Ok made) P Q one two = (one, two)
both_ok (Err fault) P Q one two = tt

module _ (g : GraphData) (m : MachineData) (covers : Covers g m) where
  -- a group that is passed over is held, and isn't refused
  passed_held : (large : ℕ) (k : ℕ) (part : MachinePart) (group : Group) → Stands m.parts k part → part.code ≡ None → IsPartOf g group part →
      IsPassed large m.wide (id_of group) → (fault_in group ≡ None → slice_index_or m.uses k None ≢ None) × (refused_in large group ≡ None)
  passed_held large k part group stands stale is_part (up_to, node) =
      elim (known_or_not m.wide) [
        | inr none ↦ absurd (subst (HoldsUpTo large) none up_to)
        | inl (wide, is) ↦
            let few : wide.large ≤ large = subst (HoldsUpTo large) is up_to in
            elim (covers.held wide is k part stands (some_members is_part) stale) [
              | inl held ↦
                  let same : held.group ≡ group = one_group g held.group group part held.is_part is_part in (
                    λ fits. held.told (subst (λ one. fault_in one ≡ None) (sym same) fits),
                    allowed_more wide.large large group is_part.is_group.some few (subst (λ one. refused_in wide.large one ≡ None) same held.allowed),
                  )
              | inr outside ↦
                  let there : Contains (take part.members part.map.items) (id_of group) =
                  subst (λ xs. Contains xs (id_of group)) (sym is_part.members) (id_member g group is_part.is_group) in
                  absurd (outside (id_of group) there (subst (λ one. IsStorage (graph_in one) (id_of group)) is node))
            ]
      ]

  -- so it has its text, if there is one
  pub passed_told : (large : ℕ) (k : ℕ) (part : MachinePart) (group : Group) → Stands m.parts k part → part.code ≡ None → IsPartOf g group part →
      IsPassed large m.wide (id_of group) → fault_in group ≡ None → slice_index_or m.uses k None ≢ None
  passed_told large k part group stands stale is_part passed = (passed_held large k part group stands stale is_part passed).0

  pub passed_fits : (large : ℕ) (k : ℕ) (part : MachinePart) (group : Group) → Stands m.parts k part → part.code ≡ None → IsPartOf g group part →
      IsPassed large m.wide (id_of group) → refused_in large group ≡ None
  passed_fits large k part group stands stale is_part passed = (passed_held large k part group stands stale is_part passed).1

  all_same : groups_in m.groups ≡ covers.groups.groups
  all_same = ap groups_in covers.kept

  -- the groups that were found are those that the machine has
  pub AreDue-found : (large : ℕ) (sizes : GroupSizes) (due : Group → Bool) →
      chosen covers.groups.groups sizes.told.items ≡ with_text (filter due covers.groups.groups) →
      chosen covers.groups.groups sizes.large.items ≡ without_text (filter due covers.groups.groups) →
      All (λ (id : GroupId). IsId covers.groups.groups id.node) sizes.told.items →
      ((group : Group) → Contains covers.groups.groups group → due group ≡ true → (k : ℕ) × IsSlotOf g m.parts group k) →
      ((k : ℕ) (part : MachinePart) (group : Group) → Stands m.parts k part → part.code ≡ None → IsPartOf g group part →
      (due group ≡ true) ⊎ IsPassed large m.wide (id_of group)) → m.texts ≡ count_distinct m.uses → AreDue g m large sizes
  AreDue-found large sizes due told without told_ids slot all texts =
      let back = sym all_same in
      record {
        are = subst (AreGroups g) back covers.are.are;
        due = due;
        told = subst (λ groups. chosen groups sizes.told.items ≡ with_text (filter due groups)) back told;
        without = subst (λ groups. chosen groups sizes.large.items ≡ without_text (filter due groups)) back without;
        told_ids = subst (λ groups. All (λ (id : GroupId). IsId groups id.node) sizes.told.items) back told_ids;
        slot = λ group there is. slot group (subst (λ groups. Contains groups group) all_same there) is;
        all = all;
        texts = texts;
      }
