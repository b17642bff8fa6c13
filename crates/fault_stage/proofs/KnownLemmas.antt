-- The texts whose codes the parts of a machine have are those of its last build, and kept where these are.
use Rattle.std.proofs.Common.{◌≡◌, ℕ, Bool, true, false, ◌||◌, List, [], ◌++◌, length, Option, None, refl, sym, subst, ◌∙◌}
use Rattle.std.specs.Prelude.{◌≢◌, slice_index_or}
use Rattle.switch_paths.specs.Graphs.{GraphData}
use Rattle.group_text.specs.Texts.{GroupTextData, text_of_group}
use Rattle.group_text.specs.FirstTexts.{is_among, new_texts}
use Rattle.group_analysis.specs.Using.{kept_after}
use Rattle.analysis_cache.proofs.OrderLemmas.{is_among-used_kept}
use Rattle.analysis_cache.proofs.UseLemmas.{is_among-used}
use Rattle.circuit_texts.specs.Building.{Builds, HasTexts}
use Rattle.column_stage.specs.Columns.{AreAmong}
use Rattle.machine_parts.specs.Parts.{Stands}
use Rattle.machine_laws.specs.Machines.{MachineData, KeepsParts}
use Rattle.machine_laws.specs.Fitting.{FitsGraph, IsKeptBy}
use Rattle.machine_laws.specs.Beginnings.{HasLast}
use Rattle.machine_laws.proofs.KeptLemmas.{built_texts_are_kept, fitting_machines_share_texts}
use Rattle.beside.specs.Fitting.{all_marked}
use Rattle.machine_stage.proofs.LastLemmas.{last_present}

-- of two truths the first holds where the other doesn't
first_holds : (a b : Bool) → b ≡ false → (a || b) ≡ true → a ≡ true
first_holds true b none is = refl
first_holds false b none is = absurd (let both : true ≡ false = sym is ∙ none in cc)

one_holds : (a b : Bool) → a ≡ true → (a || b) ≡ true
one_holds true b is = refl
one_holds false b is = absurd (cc (is))

-- after a build
pub known_by_last : (large : ℕ) (g : GraphData) (bound : Option ℕ) (old new before after : List GroupTextData) (count : ℕ) (m : MachineData) →
    FitsGraph g m → HasLast g m.last → Builds large g bound old new before after count → IsKeptBy g m.last m
known_by_last large g bound old new before after count m fits last builds k part stands numbered group is_part =
    let has : HasTexts large g m.last = subst (HasTexts large g) (sym (last_present large g m.last builds.present last builds.has)) builds.has in
    let fresh = new_texts [] m.last in
    let again : Builds large g None [] (kept_after None m.last []) [] ([] ++ fresh) (length fresh) =
    record { present = m.last; has = has; kept = refl; analysed = refl; number = refl } in
    let text = text_of_group g group in
    let kept = built_texts_are_kept large g None [] (kept_after None m.last []) [] ([] ++ fresh) (length fresh) m fits again k part stands numbered group is_part in
    first_holds (is_among m.last text) (is_among [] text) refl (sym (is_among-used m.last [] text) ∙ kept)

-- where those of the last build are kept
pub known_among : (g : GraphData) (last kept : List GroupTextData) (m : MachineData) → AreAmong last kept → IsKeptBy g last m → IsKeptBy g kept m
known_among g last kept m among known k part stands numbered group is_part =
    let text = text_of_group g group in
    sym (is_among-used_kept last kept among text)
    ∙ is_among-used last kept text
    ∙ one_holds (is_among last text) (is_among kept text) (known k part stands numbered group is_part)

-- and of each machine that fits the graph, whatever is marked
pub known_on : (g : GraphData) (old new : MachineData) → FitsGraph g (all_marked old) → FitsGraph g (all_marked new) → new.last ≡ old.last →
    IsKeptBy g old.last old → IsKeptBy g new.last new
known_on g old new fits fits_new last known =
    subst (λ (texts : List GroupTextData). IsKeptBy g texts new) (sym last)
    (fitting_machines_share_texts g old.last (all_marked old) (all_marked new) fits fits_new known)

-- so it is of one with the same parts
pub known_held : (g : GraphData) (old new : MachineData) → KeepsParts old new → new.last ≡ old.last → IsKeptBy g old.last old → IsKeptBy g new.last new
known_held g old new held last known =
    subst (λ (texts : List GroupTextData). IsKeptBy g texts new) (sym last)
    (λ k part stands numbered group is_part.
    known k part (subst (λ parts. Stands parts k part) held.parts stands)
    (subst (λ uses. slice_index_or uses k None ≢ None) held.uses numbered) group is_part)
