-- The groups that have a text are those whose ids were found to be theirs.
use Rattle.std.proofs.Common.{◌≡◌, ◌⊎◌, inl, inr, List, map, All, Some, None, ap, subst, ◌∙◌, rules}
use Rattle.std.specs.List.{AllZip}
use Rattle.group_meaning.specs.Groups.{Group}
use Rattle.group_text.specs.Texts.{text_of_group, local_nodes}
use Rattle.group_text.specs.FirstTexts.{first_texts}
use Rattle.circuit_texts.specs.declared.texts.BuildFault.TheVariants.{NoMemory}
use Rattle.circuit_texts.specs.Sizes.{refused_in, IsFirstTooLarge, IsFirstRefused, TellsRefused}
use Rattle.circuit_texts.specs.Told.{with_text, without_text}
use Rattle.circuit_texts.specs.Choosing.{chosen}
use Rattle.circuit_texts.specs.Reading.{AreReads}
use Rattle.circuit_texts.proofs.ChosenLemmas.{chosen-all}
use Rattle.circuit_texts.proofs.SizeLemmas.{none_too_large}
use Rattle.circuit_texts.proofs.ToldLemmas.{with_text_fits}
use Rattle.unit_step.proofs.planning.plan_of.Goals.{After-sizes_at}
use Rattle.unit_step.proofs.planning.plan_of.Goals as goal

-- the ids are those of all groups
all_chosen : (c : After-sizes_at) → chosen c.in_ok-groups.groups.groups c.deref.result.now ≡ c.in_ok-groups.groups.groups
all_chosen c =
    chosen-all c.in_ok-groups.groups.groups c.in_ok-groups.ensures.groups.ascending c.in_ok-ids.ids.items c.deref.result.now c.deref.ensures.value
    c.in_ok-ids.ensures.ids c.in_ok-ids.ensures.all

-- the first group that is refused is told
pub returns-in_err-told-clause-refused : goal.returns-in_err-told-clause-refused
returns-in_err-told-clause-refused c =
    let g = c.args.graph.now in
    let fault = c.in_err-told.field-0.0 in
    let all = all_chosen (goal.at.returns-in_err-told-clause-refused c).After-sizes_at in
    let told : (fault ≡ NoMemory) ⊎ TellsRefused c.args.large g fault =
    elim c.in_err-told.ensures.refused [
      | inl want ↦ inl want
      | inr first ↦
          inr (record {
            groups = c.in_ok-groups.groups.groups;
            are = c.in_ok-groups.ensures.groups;
            first = subst (λ (groups : List Group). IsFirstRefused c.args.large groups fault) all first;
          })
    ] in
    search rules

-- those that have a text aren't too large for one
pub returns-in_err-uses-clause-refused : goal.returns-in_err-uses-clause-refused
returns-in_err-uses-clause-refused c =
    let g = c.args.graph.now in
    let groups = c.in_ok-groups.groups.groups in
    let fault = c.in_err-uses.field-0.0 in
    let all = all_chosen (goal.at.returns-in_err-uses-clause-refused c).After-sizes_at in
    let chosen_told : chosen groups c.deref-2.result.now ≡ with_text groups =
    ap (chosen groups) c.deref-2.ensures.value ∙ (c.in_ok-told.ensures.told ∙ ap with_text all) in
    let told : (fault ≡ NoMemory) ⊎ TellsRefused c.args.large g fault =
    elim c.in_err-uses.ensures.too_large [
      | inl want ↦ inl want
      | inr first ↦
          absurd (none_too_large (with_text groups) fault (with_text_fits groups)
          (subst (λ (list : List Group). IsFirstTooLarge list fault) chosen_told first))
    ] in
    search rules

pub returns-clause-plan : goal.returns-clause-plan
returns-clause-plan c =
    let g = c.args.graph.now in
    let groups = c.in_ok-groups.groups.groups in
    let all = all_chosen (goal.at.returns-clause-plan c).After-sizes_at in
    let told : chosen groups c.in_ok-told.field-0.told.items ≡ with_text groups = c.in_ok-told.ensures.told ∙ ap with_text all in
    let numbered : chosen groups c.deref-2.result.now ≡ with_text groups = ap (chosen groups) c.deref-2.ensures.value ∙ told in
    let read : chosen groups c.deref-3.result.now ≡ with_text groups = ap (chosen groups) c.deref-3.ensures.value ∙ told in
    record {
      are = c.in_ok-groups.ensures.are;
      fit = subst (All (λ group. refused_in c.args.large group ≡ None)) all c.in_ok-told.ensures.fits;
      texts = c.in_ok-uses.ensures.texts ∙ ap (λ (list : List Group). map Some (map (text_of_group g) list)) numbered;
      known = c.in_ok-uses.ensures.known ∙ ap (λ (list : List Group). first_texts (map (text_of_group g) list)) numbered;
      maps = c.in_ok-uses.ensures.maps ∙ ap (λ (list : List Group). map (local_nodes g) list) numbered;
      reads = subst (λ (list : List Group). AllZip (λ group nodes. AreReads g group nodes.items) list c.in_ok-reads_at.field-0.items) read c.in_ok-reads_at.ensures;
      untold = c.in_ok-told.ensures.large ∙ ap without_text all;
      ids = c.in_ok-told.ensures.large_ids;
      state_is = c.in_ok-from_slice.ensures.items;
    }
