-- The machine's numbers are those of the graph's groups and of their texts.
use Rattle.std.proofs.Common.{◌≡◌, ℕ, List, length, count_by, Option, IfSome, sym, ap, subst, ◌∙◌}
use Rattle.switch_paths.specs.Graphs.{GraphData}
use Rattle.group_meaning.proofs.UniqueGroups.{unique}
use Rattle.group_text.specs.Texts.{GroupTextData}
use Rattle.group_text.specs.FirstTexts.{first_texts}
use Rattle.circuit_texts.specs.Building.{HasTexts}
use Rattle.machine_parts.specs.Parts.{has_members}
use Rattle.machine_laws.specs.Machines.{MachineData}
use Rattle.machine_stage.specs.Machines.{FitsIn}

module _ (g : GraphData) (found : Option MachineData) (built : FitsIn g found) (large : ℕ) (texts : List GroupTextData) (has : HasTexts large g texts) where
  -- so many parts have members as there are groups
  pub groups_counted : (count : ℕ) → IfSome found (λ machine. count ≡ count_by has_members machine.parts) → count ≡ length has.groups
  groups_counted count counted =
      let machine = built.machine in
      let covers = built.fits.covers in
      let counts : count ≡ count_by has_members machine.parts =
      subst (λ (m : Option MachineData). IfSome m (λ machine. count ≡ count_by has_members machine.parts)) built.there counted in
      counts ∙ covers.number ∙ ap length (sym (unique g has.groups covers.groups.groups has.are covers.are.are))

  -- and so many distinct texts
  pub texts_counted : (count : ℕ) → IfSome found (λ machine. count ≡ machine.texts) → count ≡ length (first_texts texts)
  texts_counted count differ =
      let tells : count ≡ built.machine.texts = subst (λ (m : Option MachineData). IfSome m (λ machine. count ≡ machine.texts)) built.there differ in
      tells ∙ built.fits.texts has.groups has.are ∙ ap (λ (ts : List GroupTextData). length (first_texts ts)) (sym has.texts_are)
