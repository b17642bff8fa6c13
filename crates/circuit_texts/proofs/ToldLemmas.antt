-- Groups by whether they have a text: one group more, and none that is too large.
use Rattle.std.proofs.Common.{◌≡◌, ◌≢◌, ℕ, ◌<◌, ◌+◌, Bool, true, false, if◌then◌else◌, List, [], ◌∷◌, ◌++◌, length, map, get_or, All, Option, Some, None, refl, sym, ap, ap₂, subst, ◌∙◌, arith}
use Rattle.std.specs.Prelude.{not, is_none, is_some, filter}
use Rattle.std.specs.List.{filter_map}
use Rattle.std.specs.List.Sorted.{IsStrictlyIncreasing}
use Rattle.std.proofs.lemmas.List.{get_or-map, length-map}
use Rattle.std.proofs.lemmas.List.Elements.{All-nil, All-cons, All-head, All-tail, All-append, filter-append, filter_map-append, filter_passes, All-weaker}
use Rattle.std.proofs.lemmas.List.Kept.{AllPairs-from_increasing, AllPairs-filter}
use Rattle.switch_paths.specs.Graphs.{GraphData}
use Rattle.group_meaning.specs.Groups.{Group, id_of}
use Rattle.group_text.specs.Texts.{text_of_group}
use Rattle.group_text.specs.declared.text.TextFault.{TextFault}
use Rattle.channel_groups.specs.declared.group.GroupId.{GroupId}
use Rattle.channel_groups.specs.Grouping.{group_with, IsId}
use Rattle.circuit_texts.specs.Sizes.{fault_in}
use Rattle.circuit_texts.specs.Choosing.{chosen}
use Rattle.circuit_texts.specs.Told.{has_text, with_text, without_text, told}

-- a group that fits has a text, and one that has a text fits
pub text_from_fit : (group : Group) → fault_in group ≡ None → has_text group ≡ true
text_from_fit group fits = ap is_none fits

pub fit_from_text : (group : Group) → has_text group ≡ true → fault_in group ≡ None
fit_from_text group has = by (fault_in group) has
  where
    by : (fault : Option TextFault) → is_none fault ≡ true → fault ≡ None
    by None is = refl
    by (Some cause) is = absurd cc

-- so one that has none is too large
pub untold_from_none : (group : Group) → not (has_text group) ≡ true → fault_in group ≡ None → ⊥
untold_from_none group none fits =
    let both : not true ≡ true = ap not (sym (text_from_fit group fits)) ∙ none in
    absurd cc

pub none_from_untold : (group : Group) → fault_in group ≢ None → not (has_text group) ≡ true
none_from_untold group untold = by (fault_in group) refl
  where
    by : (fault : Option TextFault) → fault_in group ≡ fault → not (is_none (fault_in group)) ≡ true
    by None is = absurd (untold is)
    by (Some cause) is = rw is refl

-- those that have a text fit
pub with_text_fits : (groups : List Group) → All (λ group. fault_in group ≡ None) (with_text groups)
with_text_fits groups =
    All-weaker (λ group. has_text group ≡ true) (λ group. fault_in group ≡ None) (λ group has. fit_from_text group has) (with_text groups)
    (filter_passes has_text groups)

module _ (groups : List Group) (p : Group → Bool) where
  -- the ids of groups that pass a test, with one group more
  pub some-next : (front all : List Group) (ids more : List GroupId) (id : GroupId) (group : Group) → group_with groups id.node ≡ Some group →
      all ≡ front ++ group ∷ [] → chosen groups ids ≡ filter p front → more ≡ ids ++ (if p group then id ∷ [] else []) →
      chosen groups more ≡ filter p all
  some-next front all ids more id group found grown so_far put =
      let h : GroupId → Option Group = λ one. group_with groups one.node in
      ap (chosen groups) put
      ∙ (filter_map-append h ids (if p group then id ∷ [] else [])
      ∙ (ap₂ (λ xs ys. xs ++ ys) so_far (one (p group)) ∙ (sym (filter-append p front (group ∷ [])) ∙ ap (filter p) (sym grown))))
    where
      one : (has : Bool) → chosen groups (if has then id ∷ [] else []) ≡ (if has then group ∷ [] else [])
      one true = ap (λ slot. filter_map (λ (it : Option Group). it) (slot ∷ [])) found
      one false = refl

  pub ids-next : (ids more : List GroupId) (id : GroupId) (group : Group) → group_with groups id.node ≡ Some group →
      All (λ (one : GroupId). IsId groups one.node) ids → more ≡ ids ++ (if p group then id ∷ [] else []) →
      All (λ (one : GroupId). IsId groups one.node) more
  ids-next ids more id group found each put =
      let Is : GroupId → Type 0 = λ one. IsId groups one.node in
      subst (All Is) (sym put) (All-append Is ids (if p group then id ∷ [] else []) each (one (p group)))
    where
      one : (has : Bool) → All (λ (it : GroupId). IsId groups it.node) (if has then id ∷ [] else [])
      one true =
          let Is : GroupId → Type 0 = λ it. IsId groups it.node in
          All-cons Is id [] (ap is_some found) (All-nil Is)
      one false = All-nil (λ (it : GroupId). IsId groups it.node)

-- if all groups fit, all have a text
pub with_text-all : (groups : List Group) → All (λ group. fault_in group ≡ None) groups → with_text groups ≡ groups
with_text-all [] fits = refl
with_text-all (group ∷ groups) fits =
    let Fits : Group → Type 0 = λ one. fault_in one ≡ None in
    ap (λ fault. if is_none fault then group ∷ with_text groups else with_text groups) (All-head Fits group groups fits)
    ∙ ap (λ rest. group ∷ rest) (with_text-all groups (All-tail Fits group groups fits))

-- and none is without one
pub without_text-none : (groups : List Group) → All (λ group. fault_in group ≡ None) groups → without_text groups ≡ []
without_text-none [] fits = refl
without_text-none (group ∷ groups) fits =
    let Fits : Group → Type 0 = λ one. fault_in one ≡ None in
    ap (λ fault. if not (is_none fault) then group ∷ without_text groups else without_text groups) (All-head Fits group groups fits)
    ∙ without_text-none groups (All-tail Fits group groups fits)

-- so the texts that are told are all texts
pub told_all : (g : GraphData) (groups : List Group) → All (λ group. fault_in group ≡ None) groups → told g groups ≡ map (text_of_group g) groups
told_all g groups fits = ap (map (text_of_group g)) (with_text-all groups fits)

-- groups that pass a test ascend as all do
pub ascending-filter : (p : Group → Bool) (groups : List Group) → IsStrictlyIncreasing (map id_of groups) →
    IsStrictlyIncreasing (map id_of (filter p groups))
ascending-filter p groups ascending k within =
    let d : Group = record { members = []; switches = [] } in
    let left = filter p groups in
    let inside : k + 1 < length left = omega (arith, within, length-map left id_of) in
    let below : id_of (get_or left k d) < id_of (get_or left (k + 1) d) =
    AllPairs-filter (λ x y. id_of x < id_of y) p groups pairs k (k + 1) d (omega arith) inside in
    omega (arith, below, get_or-map id_of left k d 0 (omega (arith, inside)), get_or-map id_of left (k + 1) d 0 inside)
  where
    pairs : (i j : ℕ) (d : Group) → i < j → j < length groups → id_of (get_or groups i d) < id_of (get_or groups j d)
    pairs i j d before inside =
        let below = AllPairs-from_increasing (map id_of groups) ascending i j 0 before (omega (arith, inside, length-map groups id_of)) in
        omega (arith, below, get_or-map id_of groups i d 0 (omega (arith, before, inside)), get_or-map id_of groups j d 0 inside)
