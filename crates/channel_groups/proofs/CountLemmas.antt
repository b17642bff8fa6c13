-- The places that are listed at different nodes are different, so those at the members of a group are at most its switches.
use Rattle.std.proofs.Common.{◌≡◌, ℕ, ◌+◌, ◌<◌, ◌≤◌, false, inl, inr, List, [], ◌∷◌, ◌++◌, length, get_or, nat_eq, Contains, Option, refl, sym, ap, subst, ◌∙◌, not, take, arith}
use Rattle.std.proofs.lemmas.Cmp.{nat_eq_equiv}
use Rattle.std.proofs.lemmas.List.{take_more, flat_map_more, length-append}
use Rattle.std.proofs.lemmas.List.Folds.{list_any_at}
use Rattle.std.specs.List.{flat_map, IsDistinct}
use Rattle.std.proofs.lemmas.Bool.{eqb-true, eq-eqb}
use Rattle.std.proofs.lemmas.List.Elements.{recursion_from_All, Contains-append_cases}
use Rattle.std.proofs.lemmas.Map.Keys.{IsDistinct-tail, IsDistinct-cons}
use Rattle.std.proofs.lemmas.Map.Made.{length-le_from_is_member}
use Rattle.list_facts.proofs.ContainsLemmas.{Contains-cons_first, Contains-cons_later, Contains-from_filter, passes-from_filter, unlike}
use Rattle.list_facts.proofs.DistinctLemmas.{not_again, IsDistinct-filter}
use Rattle.indexmap.proofs.CallerLemmas.{Contains-list_any}
use Rattle.switch_paths.specs.declared.switching.Switch.{Switch}
use Rattle.switch_paths.specs.Graphs.{GraphData}
use Rattle.channel_groups.specs.Listing.{HasEndAt, AreListed, is_other, others_at}

-- two lists without repeats have none together, where they share nothing
pub IsDistinct-append : (xs ys : List ℕ) → IsDistinct nat_eq xs → IsDistinct nat_eq ys → ((x : ℕ) → Contains xs x → ¬ Contains ys x) →
    IsDistinct nat_eq (xs ++ ys)
IsDistinct-append [] ys one two apart = two
IsDistinct-append (x ∷ xs) ys one two apart =
    IsDistinct-cons nat_eq x (xs ++ ys)
    (recursion_from_All (λ y. nat_eq x y ≡ false) (xs ++ ys)
    (unlike x (xs ++ ys) (λ there. elim (Contains-append_cases xs ys x there) [
      | inl again ↦ not_again x xs one again
      | inr shared ↦ apart x (Contains-cons_first x xs x refl) shared
    ])))
    (IsDistinct-append xs ys (IsDistinct-tail nat_eq x xs one) two (λ y there. apart y (Contains-cons_later x xs y there)))

-- what several lists together contain is in one of them
pub Contains-from_flat_map : {X : Type 0} (f : X → List ℕ) (xs : List X) (y : ℕ) → Contains (flat_map f xs) y → (x : X) × Contains xs x × Contains (f x) y
Contains-from_flat_map f [] y there = absurd (omega (arith, there.1))
Contains-from_flat_map f (x ∷ xs) y there =
    elim (Contains-append_cases (f x) (flat_map f xs) y there) [
      | inl here ↦ (x, Contains-cons_first x xs x refl, here)
      | inr later ↦ let rest = Contains-from_flat_map f xs y later in (rest.0, Contains-cons_later x xs rest.0 rest.1, rest.2)
    ]

-- a list without repeats is at most as long as one that contains all of it
pub length-le_from_contained : (xs ys : List ℕ) → IsDistinct nat_eq xs → ((x : ℕ) → Contains xs x → Contains ys x) → length xs ≤ length ys
length-le_from_contained xs ys distinct all =
    length-le_from_is_member nat_eq_equiv xs ys distinct (λ x there.
    let in_ys = all x (Contains-list_any nat_eq (λ a b e. eqb-true a b e) xs x there) in
    list_any_at (nat_eq x) ys in_ys.0 x in_ys.1 (eq-eqb x (get_or ys in_ys.0 x) (sym in_ys.2)))

module _ (end : Switch → ℕ) (g : GraphData) (changed : Option ℕ) (lists : ℕ → List ℕ) (listed : AreListed end g changed lists) where
  -- a place that is listed and isn't the changed one has the end at the node
  other_there : (node place : ℕ) → Contains (others_at changed lists node) place → HasEndAt end g place node
  other_there node place there =
      elim (listed.only place node (Contains-from_filter (is_other changed) (lists node) place there)) [
        | inl at ↦ at
        | inr same ↦
            let passes = passes-from_filter (is_other changed) (lists node) place there in
            let fails : is_other changed place ≡ false = rw same (ap not (eq-eqb place place refl)) in
            absurd (cc)
      ]

  -- at different nodes they are different
  distinct_there : (nodes : List ℕ) → IsDistinct nat_eq nodes → IsDistinct nat_eq (flat_map (others_at changed lists) nodes)
  distinct_there [] distinct = distinct
  distinct_there (node ∷ nodes) distinct =
      IsDistinct-append (others_at changed lists node) (flat_map (others_at changed lists) nodes)
      (IsDistinct-filter (is_other changed) (lists node) (listed.distinct node))
      (distinct_there nodes (IsDistinct-tail nat_eq node nodes distinct))
      (λ place here later.
      let there = Contains-from_flat_map (others_at changed lists) nodes place later in
      let one = other_there node place here in
      let two = other_there there.0 place there.2 in
      let switch : one.switch ≡ two.switch = cc (one.at_place, two.at_place) in
      let same : there.0 ≡ node = sym two.at_node ∙ ap end (sym switch) ∙ one.at_node in
      not_again node nodes distinct (subst (Contains nodes) same there.1))

  -- so those at different nodes are at most as many as a list that has all of them
  pub few_places : (nodes switches : List ℕ) → IsDistinct nat_eq nodes →
      ((place node : ℕ) → Contains nodes node → HasEndAt end g place node → Contains switches place) →
      length (flat_map (others_at changed lists) nodes) ≤ length switches
  few_places nodes switches distinct all =
      length-le_from_contained (flat_map (others_at changed lists) nodes) switches (distinct_there nodes distinct)
      (λ place there.
      let at = Contains-from_flat_map (others_at changed lists) nodes place there in
      all place at.0 at.1 (other_there at.0 place at.2))

-- with one item more there are its places more
pub count_more : (f : ℕ → List ℕ) (xs : List ℕ) (i : ℕ) → i < length xs →
    length (flat_map f (take (i + 1) xs)) ≡ length (flat_map f (take i xs)) + length (f (get_or xs i 0))
count_more f xs i inside =
    ap length (ap (flat_map f) (take_more xs i 0 inside) ∙ sym (flat_map_more f [] (take i xs) (get_or xs i 0)))
    ∙ length-append (flat_map f (take i xs)) (f (get_or xs i 0))
