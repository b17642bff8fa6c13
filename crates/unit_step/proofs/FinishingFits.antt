-- A machine whose parts have their groups' texts counts the distinct texts of the graph's groups.
use Rattle.std.proofs.Common.{◌≡◌, ◌≢◌, ℕ, zero, suc, ◌<◌, Bool, true, false, ◌||◌, inl, inr, List, [], ◌∷◌, length, map, get_or, Option, Some, None, refl, sym, ap, subst, ◌∙◌, arith}
use Rattle.std.specs.Prelude.{slice_get, slice_index_or}
use Rattle.std.proofs.lemmas.Bool.{cases_lt}
use Rattle.std.proofs.lemmas.List.{get_or_default}
use Rattle.std.proofs.lemmas.Option.{slice_get_read, slice_get_within, get_or_from_slice_get}
use Rattle.switch_paths.specs.Graphs.{GraphData}
use Rattle.group_meaning.specs.Groups.{Group}
use Rattle.group_meaning.proofs.UniqueGroups.{unique}
use Rattle.group_text.specs.Texts.{GroupTextData, text_of_group}
use Rattle.group_text.specs.Compared.{same_text, same_text_decides}
use Rattle.group_text.specs.FirstTexts.{is_among, first_texts}
use Rattle.circuit_texts.specs.Told.{has_text, with_text, told}
use Rattle.circuit_texts.proofs.ToldLemmas.{text_from_fit, fit_from_text}
use Rattle.kept_parts.specs.Uses.{some_texts, count_distinct}
use Rattle.kept_parts.proofs.PlaceLemmas.{or_true}
use Rattle.machine_parts.specs.declared.part.MachinePart.{MachinePart}
use Rattle.machine_parts.specs.Parts.{Stands}
use Rattle.machine_laws.specs.Machines.{MachineData}
use Rattle.machine_laws.specs.Fitting.{Covers, AreTold}
use Rattle.machine_laws.specs.Holding.{IsReady}
use Rattle.machine_laws.proofs.FilterLemmas.{filter_has, filter_keeps}
use Rattle.machine_laws.proofs.KeptLemmas.{group_there, numbered_told}
use Rattle.machine_laws.proofs.FinishingTexts.{same_distinct}

-- the text of a part is among those of the parts that have one
pub among_some : (uses : List (Option GroupTextData)) (k : ℕ) (text : GroupTextData) → slice_index_or uses k None ≡ Some text →
    is_among (some_texts uses) text ≡ true
among_some [] k text is = absurd cc
among_some (None ∷ uses) zero text is = absurd cc
among_some (None ∷ uses) (suc k) text is = among_some uses k text is
among_some (Some first ∷ uses) zero text is =
    let same : first ≡ text = cc in
    ap (λ b. b || is_among (some_texts uses) text) ((same_text_decides text first).1 (sym same))
among_some (Some first ∷ uses) (suc k) text is = or_true (same_text text first) (is_among (some_texts uses) text) (among_some uses k text is)

-- and each of those is the text of a part
pub some_part : (uses : List (Option GroupTextData)) (text : GroupTextData) → is_among (some_texts uses) text ≡ true →
    (k : ℕ) × (k < length uses) × (slice_index_or uses k None ≡ Some text)
some_part [] text is = absurd cc
some_part (None ∷ uses) text is = let (k, inside, here) = some_part uses text is in (suc k, omega (arith, inside), here)
some_part (Some first ∷ uses) text is = by (some_part uses text) (same_text text first) refl is
  where
    by : (is_among (some_texts uses) text ≡ true → (k : ℕ) × (k < length uses) × (slice_index_or uses k None ≡ Some text)) → (b : Bool) →
        same_text text first ≡ b → (b || is_among (some_texts uses) text) ≡ true →
        (k : ℕ) × (k < length (Some first ∷ uses)) × (slice_index_or (Some first ∷ uses) k None ≡ Some text)
    by later true same is = (0, omega arith, ap Some (sym ((same_text_decides text first).0 same)))
    by later false same is = let (k, inside, here) = later is in (suc k, omega (arith, inside), here)

-- the text of a group is among those of all groups
among_groups : (g : GraphData) (groups : List Group) (i : ℕ) (group : Group) → slice_get groups i ≡ Some group →
    is_among (map (text_of_group g) groups) (text_of_group g group) ≡ true
among_groups g [] i group at = absurd cc
among_groups g (first ∷ groups) zero group at =
    let same : first ≡ group = cc in
    let text = text_of_group g group in
    ap (λ b. b || is_among (map (text_of_group g) groups) text)
    ((same_text_decides text (text_of_group g first)).1 (ap (text_of_group g) (sym same)))
among_groups g (first ∷ groups) (suc i) group at =
    or_true (same_text (text_of_group g group) (text_of_group g first)) (is_among (map (text_of_group g) groups) (text_of_group g group))
    (among_groups g groups i group at)

-- and each of those is the text of a group
some_group : (g : GraphData) (groups : List Group) (text : GroupTextData) → is_among (map (text_of_group g) groups) text ≡ true →
    (i : ℕ) × (group : Group) × (slice_get groups i ≡ Some group) × (text_of_group g group ≡ text)
some_group g [] text is = absurd cc
some_group g (first ∷ groups) text is = by (some_group g groups text) (same_text text (text_of_group g first)) refl is
  where
    by : (is_among (map (text_of_group g) groups) text ≡ true →
        (i : ℕ) × (group : Group) × (slice_get groups i ≡ Some group) × (text_of_group g group ≡ text)) → (b : Bool) → same_text text (text_of_group g first) ≡ b → (b || is_among (map (text_of_group g) groups) text) ≡ true →
        (i : ℕ) × (group : Group) × (slice_get (first ∷ groups) i ≡ Some group) × (text_of_group g group ≡ text)
    by later true same is = (0, first, refl, sym ((same_text_decides text (text_of_group g first)).0 same))
    by later false same is = let (i, group, at, here) = later is in (suc i, group, at, here)

-- tests that hold alike are equal
both_ways : (a b : Bool) → (a ≡ true → b ≡ true) → (b ≡ true → a ≡ true) → a ≡ b
both_ways true b to back = sym (to refl)
both_ways false true to back = back refl
both_ways false false to back = refl

module _ (g : GraphData) (m : MachineData) (covers : Covers g m) (have_texts : AreTold g m) where
  abbrev told_groups : List Group
  told_groups = with_text covers.groups.groups

  -- the parts' texts are the groups' texts
  pub same_texts : (text : GroupTextData) → is_among (some_texts m.uses) text ≡ is_among (told g covers.groups.groups) text
  same_texts text = both_ways _ _ to back
    where
      to : is_among (some_texts m.uses) text ≡ true → is_among (told g covers.groups.groups) text ≡ true
      to is =
          let (k, inside, here) = some_part m.uses text is in
          let within : k < length m.parts = omega (arith, inside, covers.uses_counted) in
          let (part, stands) = part_at m.parts k within in
          elim (cases_lt 0 part.members) [
            | inl some ↦
                let (group, is_part) = covers.whole k part stands some in
                let numbered : slice_index_or m.uses k None ≢ None = λ lacks. absurd (cc (here, lacks)) in
                let has = covers.known k part stands numbered group is_part in
                let same : Some (text_of_group g group) ≡ Some text = sym has.same ∙ here in
                let is_text : text_of_group g group ≡ text = cc in
                let (n, there, at_all) = group_there g covers.groups.groups covers.are.are group is_part.is_group in
                let (i, within, at) = filter_keeps has_text covers.groups.groups group (n, there, get_or_from_slice_get covers.groups.groups n group group at_all) (text_from_fit group has.fits) in
                subst (λ one. is_among (told g covers.groups.groups) one ≡ true) is_text
                (among_groups g told_groups i group (slice_get_read told_groups (length told_groups) i group refl within (sym at)))
            | inr none ↦
                let no : None ≡ Some text = sym (covers.textless k part stands (omega (arith, none))) ∙ here in
                absurd cc
          ]
        where
          part_at : (parts : List MachinePart) (k : ℕ) → k < length parts → (part : MachinePart) × Stands parts k part
          part_at [] k inside = absurd (omega (arith, inside))
          part_at (part ∷ parts) k inside = (get_or (part ∷ parts) k part, record { inside = inside; here = get_or_default (part ∷ parts) k _ part inside })

      back : is_among (told g covers.groups.groups) text ≡ true → is_among (some_texts m.uses) text ≡ true
      back is =
          let (i, group, at, is_text) = some_group g told_groups text is in
          let ((n, within, here), has_one) = filter_has has_text covers.groups.groups group (i, slice_get_within told_groups i group at, get_or_from_slice_get told_groups i group group at) in
          let has = covers.each n group (slice_get_read covers.groups.groups (length covers.groups.groups) n group refl within (sym here)) in
          let numbered = numbered_told g m covers have_texts has.k has.part group has.stands has.is_part (fit_from_text group has_one) in
          let known = covers.known has.k has.part has.stands numbered group has.is_part in
          among_some m.uses has.k text (known.same ∙ ap Some is_text)

  -- so the machine is ready
  pub IsReady-covered : m.texts ≡ count_distinct m.uses → IsReady g m
  IsReady-covered counts = record {
    covers = covers;
    told = have_texts;
    texts = λ groups are.
        counts ∙ (same_distinct (some_texts m.uses) (told g covers.groups.groups) same_texts
        ∙ ap (λ list. length (first_texts (told g list))) (unique g covers.groups.groups groups covers.are.are are));
  }
