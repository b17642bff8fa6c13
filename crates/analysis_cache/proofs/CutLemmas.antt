-- Entries that are cut from the back, one after the other: what is left is a prefix of what there was, and the texts of the others were cut.
use Rattle.std.proofs.Common.{◌≡◌, ℕ, zero, suc, ◌+◌, ◌-◌, ◌<◌, ◌≤◌, List, [], ◌∷◌, length, take, drop, get_or, None, Some, Result, Ok, Err, OnOk, sym, ap, ◌∙◌, arith}
use Rattle.std.specs.Prelude.{slice_get}
use Rattle.std.proofs.lemmas.List.{drop_more, get_or-take, length-map, length-take, take-map, take-take}
use Rattle.std.proofs.lemmas.Option.{get_or_from_slice_get}
use Rattle.group_text.specs.Texts.{GroupTextData}
use Rattle.analysis_cache.specs.Keeping.{Entry, entry_texts}

-- what follows of what holds on an answer holds on it
pub on_ok : {T E P Q : Type 0} (result : Result T E) → (P → Q) → OnOk result P → OnOk result Q
on_ok (Ok value) follows fact = follows fact
on_ok (Err fault) follows fact = tt

-- a list has an element at each place inside
pub inside_none : {X : Type 0} (xs : List X) (i : ℕ) → None ≡ slice_get xs i → i < length xs → ⊥
inside_none [] i none inside = omega arith
inside_none (x ∷ xs) zero none inside = cc
inside_none (x ∷ xs) (suc i) none inside = inside_none xs i none (omega arith)

module _ (old now new : List Entry) (front : now ≡ take (length now) old) (fewer : length now ≤ length old)
    (popped : new ≡ take (length now - 1) now) (some : 0 < length now) where
  -- one entry less is left
  pub length-popped : length new ≡ length now - 1
  length-popped = omega (arith, ap length popped, length-take (length now - 1) now, some)

  -- and it is a front still
  pub front-popped : new ≡ take (length new) old
  front-popped =
      popped ∙ ap (take (length now - 1)) front
      ∙ take-take (length now - 1) (length now) old (omega arith)
      ∙ ap (λ n. take n old) (sym length-popped)

  -- the text of the last one was cut before those that were cut already
  pub text-popped : (text : GroupTextData) → Some text ≡ slice_get (entry_texts now) (length now - 1) →
      drop (length new) (entry_texts old) ≡ text ∷ drop (length now) (entry_texts old)
  text-popped text last =
      let texts = entry_texts old in
      let n = length now in
      let stands : get_or (entry_texts now) (n - 1) text ≡ text = get_or_from_slice_get (entry_texts now) (n - 1) text text (sym last) in
      let texts_now : entry_texts now ≡ take n texts = ap entry_texts front ∙ sym (take-map _ n old) in
      let here : get_or texts (n - 1) text ≡ text =
      sym (get_or-take n texts (n - 1) text (omega arith)) ∙ ap (λ l. get_or l (n - 1) text) (sym texts_now) ∙ stands in
      let within : n - 1 < length texts = omega (arith, length-map old (λ (entry : Entry). entry.0)) in
      let next : (n - 1) + 1 ≡ n = omega arith in
      ap (λ k. drop k texts) length-popped
      ∙ drop_more texts (n - 1) text within
      ∙ ap (λ one. one ∷ drop ((n - 1) + 1) texts) here
      ∙ ap (λ k. text ∷ drop k texts) next
