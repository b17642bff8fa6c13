-- What a build makes of the order of what is kept: the texts of the last build that no part has any more stand at noted nodes, since each other
-- node has the number of a part that has this text. So using these before the present texts is as if all of the last build were used.
use Rattle.std.proofs.Common.{◌≡◌, ℕ, zero, suc, ◌+◌, ◌<◌, ◌≤◌, Bool, true, false, not, cond, ◌&&◌, ◌||◌, inl, inr, List, [], ◌∷◌, length, map, filter, get_or, All, Option, None, Some, true≢false, zero-add, add-zero, refl, sym, ap, subst, ◌∙◌, arith}
use Rattle.std.specs.Prelude.{Contains, slice_index, slice_index_or}
use Rattle.std.specs.List.{AllZip, filter_map, cons_option}
use Rattle.std.specs.List.Sorted.{IsStrictlyIncreasing}
use Rattle.std.specs.Ordering.{nat_cmp}
use Rattle.std.proofs.lemmas.Bool.{cases_lt}
use Rattle.std.proofs.lemmas.List.{length-map}
use Rattle.std.proofs.lemmas.Map.Keys.{sorted_from_strictly_increasing, sorted_tail, below_from_sorted, IsStrictlyIncreasing-from_sorted}
use Rattle.std.proofs.lemmas.List.Elements.{All-contains, Contains-append_right, filter_agree}
use Rattle.group_text.specs.Texts.{GroupTextData}
use Rattle.group_text.specs.Compared.{same_text, same_text_decides, same_text_equivalence}
use Rattle.group_text.specs.FirstTexts.{is_among, first_texts}
use Rattle.group_analysis.specs.Using.{used_texts, within, kept_after}
use Rattle.analysis_cache.specs.Keeping.{KeptData, texts_of}
use Rattle.analysis_cache.proofs.NewTextLemmas.{list_any-filter, alike_text, is_among-themselves}
use Rattle.analysis_cache.proofs.UseLemmas.{is_among-used}
use Rattle.analysis_cache.proofs.DistinctLemmas.{first_texts-filter}
use Rattle.analysis_cache.proofs.OrderLemmas.{among_all, used-same_left}
use Rattle.kept_parts.specs.Uses.{UsesData, AreSame, CutsTo, some_texts, texts_used, in_use}
use Rattle.kept_parts.proofs.PlaceLemmas.{among_at}
use Rattle.machine_parts.specs.declared.part.MachinePart.{MachinePart}
use Rattle.unit_step.specs.declared.last_texts.LastTexts.{LastTexts}
use Rattle.machine_parts.specs.Parts.{Stands, AreApart}
use Rattle.machine_laws.specs.Beginnings.{Begins, AreInOrder}
use Rattle.unit_step.specs.LastTexts.{AreLastTexts, AreLeavers, UsesLeavers, IsLeft, is_unused, texts_of_last}
use Rattle.unit_step.proofs.FinishingFits.{among_some, some_part}
use Rattle.unit_step.proofs.LastTextsLemmas.{BeginsAt-first, Begins-once}
use Rattle.unit_step.proofs.LastTextsOrder.{text_at, text_of_part, number_of_text}

-- two tests are one where each holds if the other does
same_test : (a b : Bool) → (a ≡ true → b ≡ true) → (b ≡ true → a ≡ true) → a ≡ b
same_test true b there back = sym (there refl)
same_test false true there back = back refl
same_test false false there back = refl

pub either : (a b : Bool) → b ≡ true → (a || b) ≡ true
either true b is = refl
either false b is = is

module _ (R : ℕ → GroupTextData → Type 0) where
  -- of texts at places a text has its place
  place_of_text : (places : List ℕ) (texts : List GroupTextData) → AllZip R places texts → (text : GroupTextData) → is_among texts text ≡ true →
      (node : ℕ) × R node text
  place_of_text [] [] each text is = absurd (true≢false (sym is))
  place_of_text [] (one ∷ texts) each text is = absurd each
  place_of_text (node ∷ places) [] each text is = absurd each
  place_of_text (node ∷ places) (one ∷ texts) each text is =
      by (same_text text one) refl is (place_of_text places texts each.1 text)
    where
      by : (same : Bool) → same_text text one ≡ same → (same || is_among texts text) ≡ true → (is_among texts text ≡ true → (other : ℕ) × R other text) →
          (other : ℕ) × R other text
      by true e some later = (node, subst (R node) (sym ((same_text_decides text one).0 e)) each.0)
      by false e some later = later some

  -- and a place its text
  text_at_place : (places : List ℕ) (texts : List GroupTextData) → AllZip R places texts → (node : ℕ) → Contains places node →
      (text : GroupTextData) × (R node text) × (is_among texts text ≡ true)
  text_at_place [] [] each node (i, inside, here) = absurd (omega (arith, inside))
  text_at_place [] (one ∷ texts) each node there = absurd each
  text_at_place (first ∷ places) [] each node there = absurd each
  text_at_place (first ∷ places) (one ∷ texts) each node (zero, inside, here) =
      (one, subst (λ n. R n one) here each.0, ap (λ b. b || is_among texts one) (same_text_equivalence.refl one))
  text_at_place (first ∷ places) (one ∷ texts) each node (suc i, inside, here) =
      let (text, holds, among) = text_at_place places texts each.1 node (i, omega (arith, inside), here) in
      (text, holds, either (same_text text one) (is_among texts text) among)

-- the texts in order are those that the parts have
pub AreSame-order : (parts : List MachinePart) (uses : List (Option GroupTextData)) (texts : List GroupTextData) → AreInOrder parts uses texts →
    AreApart parts → ((k : ℕ) (part : MachinePart) → Stands parts k part → part.members ≤ length part.map.items) →
    ((k : ℕ) (part : MachinePart) → Stands parts k part → part.members ≡ 0 → slice_index_or uses k None ≡ None) →
    ((k : ℕ) → length parts ≤ k → slice_index_or uses k None ≡ None) → AreSame texts (some_texts uses)
AreSame-order parts uses texts order apart few textless beyond text =
    same_test (is_among texts text) (is_among (some_texts uses) text)
    (λ is.
    let (node, begins) = place_of_text (Begins parts uses) order.places texts order.each text is in
    among_some uses begins.k text begins.has)
    (λ is.
    let (k, inside, has) = some_part uses text is in
    in_order k has)
  where
    with_part : (k : ℕ) → slice_index_or uses k None ≡ Some text → (part : MachinePart) → Stands parts k part → is_among texts text ≡ true
    with_part k has part stands =
        elim (cases_lt 0 part.members) [
          | inl some ↦
              let at = BeginsAt-first parts k part stands some (few k part stands) in
              let node = slice_index part.map.items 0 in
              let begins : Begins parts uses node text = record { k = k; at = at; has = has } in
              let (other, also, among) = text_at_place (Begins parts uses) order.places texts order.each node (order.all node text begins) in
              let same = Begins-once parts uses node other text apart also begins in
              subst (λ one. is_among texts one ≡ true) same among
          | inr none ↦
              let no : None ≡ Some text = sym (textless k part stands (omega (arith, none))) ∙ has in
              absurd cc
        ]

    in_order : (k : ℕ) → slice_index_or uses k None ≡ Some text → is_among texts text ≡ true
    in_order k has =
        elim (cases_lt k (length parts)) [
          | inl inside ↦ let (part, here) = part_there parts k inside in with_part k has part (record { inside = inside; here = here })
          | inr past ↦
              let no : None ≡ Some text = sym (beyond k past) ∙ has in
              absurd cc
        ]
      where
        part_there : (all : List MachinePart) (i : ℕ) → i < length all → (part : MachinePart) × (slice_index_or all i part ≡ part)
        part_there [] i inside = absurd (omega (arith, inside))
        part_there (part ∷ all) zero inside = (part, refl)
        part_there (part ∷ all) (suc i) inside = part_there all i (omega (arith, inside))

-- the numbers from this one on, ascending
abbrev AscendFrom : ℕ → List ℕ → Type 0
AscendFrom n [] = Unit {0}
AscendFrom n (place ∷ places) = (n ≤ place) × AscendFrom (suc place) places

ascend_from : (n : ℕ) (places : List ℕ) → IsStrictlyIncreasing places → ((i : ℕ) → i < length places → n ≤ get_or places i 0) → AscendFrom n places
ascend_from n [] up from = tt
ascend_from n (place ∷ places) up from =
    let sorted = sorted_from_strictly_increasing (place ∷ places) up in (
      from 0 (omega arith),
      ascend_from (suc place) places (IsStrictlyIncreasing-from_sorted places (sorted_tail nat_cmp place places sorted))
          (λ i inside. below_from_sorted (place ∷ places) 0 (suc i) 0 sorted (omega arith) (omega (arith, inside))),
    )

none_before : (n : ℕ) (places : List ℕ) → AscendFrom n places → (node : ℕ) → Contains places node → n ≤ node
none_before n [] from node (i, inside, here) = absurd (omega (arith, inside))
none_before n (place ∷ places) from node (zero, inside, here) = omega (arith, from.0, here)
none_before n (place ∷ places) from node (suc i, inside, here) =
    omega (arith, from.0, none_before (suc place) places from.1 node (i, omega (arith, inside), here))

later : (n i : ℕ) → suc n + i ≡ n + suc i
later n i = omega arith

not_there : (n node place : ℕ) (places : List ℕ) (i : ℕ) → place ≡ n → suc n + i ≡ node → (¬ Contains places (suc n + i)) → ¬ Contains (place ∷ places) node
not_there n node place places i here is absent (zero, inside, same) = omega (arith, here, is, same)
not_there n node place places i here is absent (suc j, inside, same) = absent (subst (Contains places) (sym is) (j, omega (arith, inside), same))

module _ {X : Type 0} (p : X → Bool) where
  abbrev collected : List (Option X) → List X
  collected values = filter p (filter_map (λ value. value) values)

  -- one value before others
  collected-same : (value : Option X) (xs ys : List X) → filter p xs ≡ filter p ys → filter p (cons_option value xs) ≡ filter p (cons_option value ys)
  collected-same None xs ys same = same
  collected-same (Some x) xs ys same = ap (λ rest. cond (p x) (x ∷ rest) rest) same

  -- one that isn't collected
  collected-none : (value : Option X) (xs : List X) → collected (value ∷ []) ≡ [] → filter p (cons_option value xs) ≡ filter p xs
  collected-none None xs none = refl
  collected-none (Some x) xs none = by (p x) none
    where
      by : (b : Bool) → cond b (x ∷ []) [] ≡ [] → cond b (x ∷ filter p xs) (filter p xs) ≡ filter p xs
      by true none = absurd cc
      by false none = refl

  -- what is collected over all places is collected over those outside of which there is nothing to collect
  collected-places : (value_at : ℕ → Option X) (n : ℕ) (values : List (Option X)) (places : List ℕ) → AscendFrom n places →
      ((node : ℕ) → Contains places node → node < n + length values) → ((i : ℕ) → i < length values → value_at (n + i) ≡ slice_index_or values i None) →
      ((i : ℕ) → i < length values → ¬ Contains places (n + i) → collected (slice_index_or values i None ∷ []) ≡ []) →
      collected values ≡ collected (map value_at places)
  collected-places value_at n [] [] up below at none = refl
  collected-places value_at n [] (place ∷ places) up below at none = absurd (omega (arith, below place (0, omega arith, refl), up.0))
  collected-places value_at n (value ∷ values) [] up below at none =
      collected-none value (filter_map (λ one. one) values) (none 0 (omega arith) (λ (i, inside, here). absurd (omega (arith, inside))))
      ∙ collected-places value_at (suc n) values [] tt (λ node (i, inside, here). absurd (omega (arith, inside)))
      (λ i inside. ap value_at (later n i) ∙ at (suc i) (omega (arith, inside)))
      (λ i inside absent. none (suc i) (omega (arith, inside)) (λ (j, within, here). absurd (omega (arith, within))))
  collected-places value_at n (value ∷ values) (place ∷ places) up below at none =
      elim (cases_lt n place) [
        | inl before ↦
            collected-none value (filter_map (λ one. one) values)
            (none 0 (omega arith) (λ there. absurd (omega (arith, none_before (suc n) (place ∷ places) (before, up.1) (n + 0) there))))
            ∙ collected-places value_at (suc n) values (place ∷ places) (before, up.1) (λ node there. omega (arith, below node there))
            (λ i inside. ap value_at (later n i) ∙ at (suc i) (omega (arith, inside)))
            (λ i inside absent.
            none (suc i) (omega (arith, inside)) (λ there. absent (subst (Contains (place ∷ places)) (sym (later n i)) there)))
        | inr past ↦
            let here : place ≡ n = omega (arith, past, up.0) in
            let first : value_at place ≡ value = ap value_at (here ∙ sym (add-zero n)) ∙ at 0 (omega arith) in
            collected-same value (filter_map (λ one. one) values) (filter_map (λ one. one) (map value_at places))
            (collected-places value_at (suc n) values places (subst (λ k. AscendFrom (suc k) places) here up.1)
            (λ node there. omega (arith, below node (Contains-append_right (place ∷ []) places node there)))
            (λ i inside. ap value_at (later n i) ∙ at (suc i) (omega (arith, inside)))
            (λ i inside absent. none (suc i) (omega (arith, inside)) (not_there n (n + suc i) place places i here (later n i) absent)))
            ∙ ap (λ one. filter p (cons_option one (filter_map (λ one. one) (map value_at places)))) (sym first)
      ]

module _ (parts : List MachinePart) (uses : UsesData) (count : ℕ) (last_texts : LastTexts) (are : AreLastTexts parts uses.numbers count (length uses.known) last_texts) where
  abbrev numbers : List (Option ℕ)
  numbers = last_texts.numbers.items

  -- at a node that isn't noted stands nothing that no part has
  nothing_left : (node : ℕ) → (¬ Contains last_texts.changed.items node) → (number : Option ℕ) → slice_index_or numbers node None ≡ number →
      (text : Option GroupTextData) → text_at uses.known number ≡ text → collected (is_unused uses) (text ∷ []) ≡ []
  nothing_left node unnoted number number_is None text_is = refl
  nothing_left node unnoted None number_is (Some text) text_is = absurd cc
  nothing_left node unnoted (Some number) number_is (Some text) text_is =
      let begins = are.begins node number number_is unnoted in
      let has : slice_index_or (texts_used uses) begins.k None ≡ Some text =
      text_of_part uses.known uses.numbers begins.k ∙ (ap (text_at uses.known) begins.has ∙ text_is) in
      rw (among_some (texts_used uses) begins.k text has)

  module _ (leavers : List GroupTextData) (leaves : AreLeavers uses last_texts leavers) where
    -- so all of the last build that no part has any more stands at noted nodes
    all_left : leavers ≡ filter (is_unused uses) (texts_of_last uses.known last_texts)
    all_left =
        leaves.are
        ∙ sym (collected-places (is_unused uses) (λ node. text_at uses.known (slice_index_or numbers node None)) 0 (map (text_at uses.known) numbers)
        leaves.places (ascend_from 0 leaves.places leaves.ascending (λ i inside. omega arith))
        (λ node there.
        omega (arith, All-contains (λ n. n < count) last_texts.changed.items node are.within (leaves.only node there), are.counted, length-map numbers (text_at uses.known)))
        (λ i inside.
        ap (λ node. text_at uses.known (slice_index_or numbers node None)) (zero-add i) ∙ sym (text_of_part uses.known numbers i))
        (λ i inside absent.
        let unnoted : ¬ Contains last_texts.changed.items i = λ there. absent (subst (Contains leaves.places) (sym (zero-add i)) (leaves.these i there)) in
        nothing_left i unnoted (slice_index_or numbers i None) refl (slice_index_or (map (text_at uses.known) numbers) i None)
        (sym (text_of_part uses.known numbers i))))

    -- and that is what the present texts, which parts have, leave of it
    pub first-left : (present : List GroupTextData) → AreSame present (some_texts (texts_used uses)) →
        first_texts leavers ≡ filter (λ text. not (is_among present text)) (first_texts (texts_of_last uses.known last_texts))
    first-left present same =
        ap first_texts all_left
        ∙ (first_texts-filter (is_unused uses) (texts_of_last uses.known last_texts)
        ∙ filter_agree (is_unused uses) (λ text. not (is_among present text)) (λ text. ap not (sym (same text))) (first_texts (texts_of_last uses.known last_texts)))

-- a text that some part has is known, so it is in use
pub AreSame-in_use : (uses : UsesData) → AreSame (in_use uses) (some_texts (texts_used uses))
AreSame-in_use uses text =
    list_any-filter (same_text text) (is_among (some_texts (texts_used uses))) (is_among (some_texts (texts_used uses)) text)
    (alike_text (is_among (some_texts (texts_used uses))) text) uses.known
    ∙ by (is_among (some_texts (texts_used uses)) text) refl
  where
    by : (used : Bool) → is_among (some_texts (texts_used uses)) text ≡ used → (used && is_among uses.known text) ≡ used
    by true is =
        let (k, inside, has) = some_part (texts_used uses) text is in
        let (number, number_is, at_number) = number_of_text uses.known (slice_index_or uses.numbers k None) text (sym (text_of_part uses.known uses.numbers k) ∙ has) in
        among_at uses.known number text at_number
    by false is = refl

-- texts in use stay among what is kept when others are used
pub in_use-kept : (uses : UsesData) (leavers kept now : List GroupTextData) → All (λ text. is_among kept text ≡ true) (some_texts (texts_used uses)) →
    now ≡ used_texts leavers kept → All (λ text. is_among now text ≡ true) (in_use uses)
in_use-kept uses leavers kept now all used k d inside =
    let text = get_or (in_use uses) k d in
    let here : is_among (in_use uses) text ≡ true = is_among-themselves (in_use uses) k d inside in
    ap (λ texts. is_among texts text) used
    ∙ (is_among-used leavers kept text
    ∙ either (is_among leavers text) (is_among kept text)
    (among_all (is_among kept) true (some_texts (texts_used uses)) all text (sym (AreSame-in_use uses text) ∙ here)))

module _ (parts : List MachinePart) (uses : UsesData) (count : ℕ) (last_texts : LastTexts) (are : AreLastTexts parts uses.numbers count (length uses.known) last_texts)
    (present : List GroupTextData) (same : AreSame present (some_texts (texts_used uses))) (old mid new : KeptData)
    (leaves : UsesLeavers uses last_texts (texts_of old) (texts_of mid)) (bound : mid.bound ≡ old.bound) (cuts : CutsTo (in_use uses) mid new) where
  same_in_use : AreSame present (in_use uses)
  same_in_use text = same text ∙ sym (AreSame-in_use uses text)

  -- what is kept, with the present texts in front, is what a build leaves of what was kept, with those of the last build in front
  pub IsLeft-settled : IsLeft old.bound (texts_of_last uses.known last_texts) (texts_of old) present (texts_of new)
  IsLeft-settled =
      cuts.kept present same_in_use
      ∙ (ap (λ some. kept_after some present (texts_of mid)) bound
      ∙ ap (within old.bound present)
      (ap (used_texts present) leaves.used
      ∙ used-same_left (texts_of_last uses.known last_texts) leaves.leavers present (texts_of old)
      (first-left parts uses count last_texts are leaves.leavers leaves.are present same)))

  -- and they are kept
  pub present-kept : All (λ text. is_among (texts_of new) text ≡ true) present
  present-kept k d inside =
      let text = get_or present k d in
      among_all (is_among (texts_of new)) true (in_use uses) cuts.there text (sym (same_in_use text) ∙ is_among-themselves present k d inside)
