-- What a finish has analysed is what a build of the graph would: the texts of the parts that don't wait are kept.
use Rattle.std.proofs.Common.{◌≡◌, ℕ, Bool, true, false, List, map, All, None, refl, sym, ap, subst, ◌∙◌, true≢false}
use Rattle.std.specs.Prelude.{Contains, filter}
use Rattle.switch_paths.specs.Graphs.{GraphData}
use Rattle.group_meaning.specs.Groups.{Group, AreGroups}
use Rattle.group_text.specs.Texts.{GroupTextData, text_of_group}
use Rattle.group_text.specs.FirstTexts.{is_among, new_texts}
use Rattle.circuit_texts.specs.Sizes.{fault_in, refused_in}
use Rattle.circuit_texts.specs.Building.{BuildsFresh}
use Rattle.circuit_texts.specs.Told.{has_text, with_text, told}
use Rattle.circuit_texts.proofs.ToldLemmas.{fit_from_text, text_from_fit}
use Rattle.machine_laws.specs.Machines.{MachineData}
use Rattle.machine_laws.specs.Fitting.{Covers, IsKeptBy}
use Rattle.machine_laws.specs.Finishing.{AreWaiting}
use Rattle.machine_laws.proofs.FilterLemmas.{filter_has, filter_keeps, filter_covered}
use Rattle.machine_laws.proofs.FinishingTexts.{new_texts-waiting}

module _ (g : GraphData) (m : MachineData) (covers : Covers g m) (groups some : List Group) (slots : List ℕ) (are : AreGroups g groups)
    (waiting : AreWaiting g m.parts m.uses groups some slots) (fit : All (λ group. fault_in group ≡ None) some)
    (large : ℕ) (few : All (λ group. refused_in large group ≡ None) groups)
    (kept : List GroupTextData) (known : IsKeptBy g kept m) (texts : List GroupTextData) (texts_are : texts ≡ map (text_of_group g) some) where
  -- the new ones of the waiting texts are the new ones of all
  pub waiting_texts : BuildsFresh large g kept (new_texts kept texts)
  waiting_texts = record {
    texts = told g groups;
    has = record { groups = groups; are = are; fit = few; texts_are = refl };
    fresh_are =
        ap (new_texts kept) (texts_are ∙ ap (map (text_of_group g)) (waiting.some_are ∙ some_told))
        ∙ sym (new_texts-waiting (text_of_group g) waiting.waits kept (with_text groups) old);
  }
    where
      old : (group : Group) → Contains (with_text groups) group → waiting.waits group ≡ false → is_among kept (text_of_group g group) ≡ true
      old group there not_waiting =
          let (was, has_one) = filter_has has_text groups group there in
          let has = waiting.others group was not_waiting (fit_from_text group has_one) in
          known has.k has.part has.stands has.numbered group has.is_part

      -- those that wait have a text
      some_told : filter waiting.waits groups ≡ filter waiting.waits (with_text groups)
      some_told = sym (filter_covered has_text waiting.waits groups none_untold)
        where
          none_untold : (group : Group) → Contains groups group → has_text group ≡ false → waiting.waits group ≡ false
          none_untold group there untold = by (waiting.waits group) refl
            where
              by : (b : Bool) → waiting.waits group ≡ b → waiting.waits group ≡ false
              by false is = is
              by true is =
                  let (j, within, here) = subst (λ list. Contains list group) (sym waiting.some_are) (filter_keeps waiting.waits groups group there is) in
                  let fits = subst (λ one. fault_in one ≡ None) here (fit j group within) in
                  absurd (true≢false (sym (text_from_fit group fits) ∙ untold))
