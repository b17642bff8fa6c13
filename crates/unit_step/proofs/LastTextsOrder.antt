-- The texts of the last build in order: if no node is noted, these are those of the parts that have one, in the order of the nodes at which
-- the parts begin. Each node has its number or none, so what is collected over all nodes is collected over those that have one.
use Rattle.std.proofs.Common.{◌≡◌, ℕ, zero, suc, ◌+◌, ◌<◌, ◌≤◌, List, [], ◌∷◌, length, map, get_or, Option, None, Some, add-one, refl, sym, ap, subst, ◌∙◌, arith}
use Rattle.std.specs.Prelude.{Contains, slice_get, slice_index_or}
use Rattle.std.specs.List.{AllZip}
use Rattle.std.specs.List.Sorted.{IsStrictlyIncreasing}
use Rattle.std.specs.Option.{option_and_then}
use Rattle.std.proofs.lemmas.List.Elements.{Contains-append_right}
use Rattle.group_text.specs.Texts.{GroupTextData}
use Rattle.kept_parts.specs.Uses.{UsesData, some_texts, texts_used}
use Rattle.machine_parts.specs.declared.part.MachinePart.{MachinePart}
use Rattle.unit_step.specs.declared.last_texts.LastTexts.{LastTexts}
use Rattle.machine_laws.specs.Beginnings.{Begins, AreInOrder}
use Rattle.unit_step.specs.LastTexts.{AreLastTexts, texts_of_last}

-- the places from this one on at which there is something
abbrev places_of : {X : Type 0} → ℕ → List (Option X) → List ℕ
places_of n [] = []
places_of n (None ∷ xs) = places_of (suc n) xs
places_of n (Some x ∷ xs) = n ∷ places_of (suc n) xs

module _ {X : Type 0} where
  -- they are no earlier places
  places_from : (n : ℕ) (xs : List (Option X)) (k : ℕ) → k < length (places_of n xs) → n ≤ get_or (places_of n xs) k 0
  places_from n [] k inside = absurd (omega (arith, inside))
  places_from n (None ∷ xs) k inside = omega (arith, places_from (suc n) xs k inside)
  places_from n (Some x ∷ xs) zero inside = omega arith
  places_from n (Some x ∷ xs) (suc k) inside = omega (arith, places_from (suc n) xs k (omega (arith, inside)))

  -- and they ascend
  next_place : (n : ℕ) (xs : List (Option X)) (k : ℕ) → suc k < length (places_of n xs) →
      get_or (places_of n xs) k 0 < get_or (places_of n xs) (suc k) 0
  next_place n [] k inside = absurd (omega (arith, inside))
  next_place n (None ∷ xs) k inside = next_place (suc n) xs k inside
  next_place n (Some x ∷ xs) zero inside = omega (arith, places_from (suc n) xs 0 (omega (arith, inside)))
  next_place n (Some x ∷ xs) (suc k) inside = next_place (suc n) xs k (omega (arith, inside))

  places_ascend : (n : ℕ) (xs : List (Option X)) → IsStrictlyIncreasing (places_of n xs)
  places_ascend n xs k inside =
      subst (λ l. get_or (places_of n xs) k 0 < get_or (places_of n xs) l 0) (sym (add-one k)) (next_place n xs k (omega (arith, inside)))

  -- if there is something there is a place
  place_there : (n : ℕ) (xs : List (Option X)) (i : ℕ) (x : X) → slice_index_or xs i None ≡ Some x → Contains (places_of n xs) (n + i)
  place_there n [] i x is = absurd cc
  place_there n (None ∷ xs) zero x is = absurd cc
  place_there n (None ∷ xs) (suc i) x is =
      let same : suc n + i ≡ n + suc i = omega arith in
      subst (Contains (places_of (suc n) xs)) same (place_there (suc n) xs i x is)
  place_there n (Some y ∷ xs) zero x is = (0, omega arith, omega arith)
  place_there n (Some y ∷ xs) (suc i) x is =
      let same : suc n + i ≡ n + suc i = omega arith in
      Contains-append_right (n ∷ []) (places_of (suc n) xs) (n + suc i) (subst (Contains (places_of (suc n) xs)) same (place_there (suc n) xs i x is))

-- what stands at a place of a list
pub stands_at : {X : Type 0} (xs : List X) (i : ℕ) → i < length xs → (x : X) × (slice_get xs i ≡ Some x)
stands_at [] i inside = absurd (omega (arith, inside))
stands_at (x ∷ xs) zero inside = (x, refl)
stands_at (x ∷ xs) (suc i) inside = stands_at xs i (omega (arith, inside))

module _ (known : List GroupTextData) where
  -- the text with a number, if there is one
  abbrev pub text_at : Option ℕ → Option GroupTextData
  text_at = option_and_then (slice_get known)

  -- the text of a part is that with its number
  pub text_of_part : (numbers : List (Option ℕ)) (k : ℕ) → slice_index_or (map text_at numbers) k None ≡ text_at (slice_index_or numbers k None)
  text_of_part [] k = refl
  text_of_part (number ∷ numbers) zero = refl
  text_of_part (number ∷ numbers) (suc k) = text_of_part numbers k

  -- a part that has a text has its number
  pub number_of_text : (number : Option ℕ) (text : GroupTextData) → text_at number ≡ Some text → (one : ℕ) × (number ≡ Some one) × (slice_get known one ≡ Some text)
  number_of_text None text is = absurd cc
  number_of_text (Some one) text is = (one, refl, is)

  module _ (parts : List MachinePart) (numbers : List (Option ℕ)) where
    pub Begins-text : (node number : ℕ) (text : GroupTextData) → slice_get known number ≡ Some text → Begins parts numbers node number →
        Begins parts (map text_at numbers) node text
    Begins-text node number text at_number begins = record {
      k = begins.k;
      at = begins.at;
      has = text_of_part numbers begins.k ∙ (ap text_at begins.has ∙ at_number);
    }

    pub Begins-number : (node : ℕ) (text : GroupTextData) → Begins parts (map text_at numbers) node text →
        (number : ℕ) × (Begins parts numbers node number) × (slice_get known number ≡ Some text)
    Begins-number node text begins =
        let (number, is, at_number) = number_of_text (slice_index_or numbers begins.k None) text (sym (text_of_part numbers begins.k) ∙ begins.has) in
        (number, record { k = begins.k; at = begins.at; has = is }, at_number)

    -- at each node with a number begins a part with its text
    each_begins : (n : ℕ) (last_texts : List (Option ℕ)) → ((i number : ℕ) → slice_index_or last_texts i None ≡ Some number → number < length known) →
        ((i number : ℕ) → slice_index_or last_texts i None ≡ Some number → Begins parts numbers (n + i) number) →
        AllZip (Begins parts (map text_at numbers)) (places_of n last_texts) (some_texts (map text_at last_texts))
    each_begins n [] inside begins = tt
    each_begins n (None ∷ last_texts) inside begins =
        each_begins (suc n) last_texts (λ i number is. inside (suc i) number is) (λ i number is.
        subst (λ node. Begins parts numbers node number) (omega arith) (begins (suc i) number is))
    each_begins n (Some number ∷ last_texts) inside begins =
        let (text, at_number) = stands_at known number (inside 0 number refl) in
        let later = each_begins (suc n) last_texts (λ i number is. inside (suc i) number is) (λ i number is.
        subst (λ node. Begins parts numbers node number) (omega arith) (begins (suc i) number is)) in
        let first : Begins parts numbers n number = subst (λ node. Begins parts numbers node number) (omega arith) (begins 0 number refl) in
        with_first text at_number (Begins-text n number text at_number first) later
      where
        with_first : (text : GroupTextData) → slice_get known number ≡ Some text → Begins parts (map text_at numbers) n text →
            AllZip (Begins parts (map text_at numbers)) (places_of (suc n) last_texts) (some_texts (map text_at last_texts)) →
            AllZip (Begins parts (map text_at numbers)) (n ∷ places_of (suc n) last_texts) (some_texts (map text_at (Some number ∷ last_texts)))
        with_first text at_number first later = rw at_number (first, later)

-- if no node is noted, the texts of the last build are those of the parts, in order
pub AreInOrder-last_texts : (parts : List MachinePart) (uses : UsesData) (count : ℕ) (last_texts : LastTexts) →
    AreLastTexts parts uses.numbers count (length uses.known) last_texts → last_texts.changed.items ≡ [] →
    AreInOrder parts (texts_used uses) (texts_of_last uses.known last_texts)
AreInOrder-last_texts parts uses count last_texts are none =
    let unnoted : (node : ℕ) → ¬ Contains last_texts.changed.items node = λ node (i, inside, here). absurd (omega (arith, inside, ap length none)) in
    record {
      places = places_of 0 last_texts.numbers.items;
      ascending = places_ascend 0 last_texts.numbers.items;
      each = each_begins uses.known parts uses.numbers 0 last_texts.numbers.items are.inside (λ i number is.
          subst (λ node. Begins parts uses.numbers node number) (omega arith) (are.begins i number is (unnoted i)));
      all = λ node text begins.
          let (number, begins_number, at_number) = Begins-number uses.known parts uses.numbers node text begins in
          let there = place_there 0 last_texts.numbers.items node number (are.lasts node number begins_number (unnoted node)) in
          subst (Contains (places_of 0 last_texts.numbers.items)) (omega arith) there;
    }
