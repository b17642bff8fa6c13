-- A list of places that turns at its border or grows, and lists of which one is written anew.
use Rattle.std.proofs.Common.{◌≡◌, ◌≢◌, ℕ, ◌<◌, inl, inr, ◌⊎◌, ◌∷◌, ◌++◌, Bool, true, List, [], length, take, refl, sym, subst, ◌∙◌, arith}
use Rattle.std.specs.Prelude.{◌↔◌, Contains, slice_index_or, slice_set}
use Rattle.std.proofs.lemmas.Bool.{cases_eq, cases_Bool}
use Rattle.std.specs.List.Sorted.{IsPermutation}
use Rattle.std.proofs.lemmas.List.{get_or-take, length-take, get_or_default, length-set, get_or-set_same, get_or-set_other}
use Rattle.std.proofs.lemmas.List.Elements.{Contains-push, Contains-push_cases, Contains-append_left}
use Rattle.std.proofs.lemmas.List.Sorted.{IsPermutation-refl, IsPermutation-sym, Contains-permutation}
use Rattle.vicinity.specs.Turning.{IsInFront, Turns}
use Rattle.vicinity.specs.Lists.{LiveListData, list_at}
use Rattle.vicinity.specs.LiveLists.{TurnsIn, TurnsAtNode, AddsIn, AddsAt}

-- what stands in front of a border is the first part of the list
pub front_is : (list : List ℕ) (border place : ℕ) → IsInFront list border place → Contains (take border list) place
front_is list border place front =
    let inside : front.k < length (take border list) = omega (arith, front.before, front.inside, length-take border list) in
    (front.k, inside, get_or-take border list front.k place front.before ∙ (get_or_default list front.k place 0 front.inside ∙ front.here))

pub is_front : (list : List ℕ) (border place : ℕ) → Contains (take border list) place → IsInFront list border place
is_front list border place (k, inside, here) =
    let before : k < border = omega (arith, inside, length-take border list) in
    let within : k < length list = omega (arith, inside, length-take border list) in
    record { k = k; before = before; inside = within; here = get_or_default list k 0 place within ∙ (sym (get_or-take border list k place before) ∙ here) }

-- a turn at the border
pub TurnsIn-turned : (live : Bool) (place : ℕ) (old : List ℕ) (old_border : ℕ) (new : List ℕ) (border : ℕ) → IsPermutation old new →
    Turns live place old old_border new border →
    TurnsIn live place (record { items = take old_border old; all = old }) (record { items = take border new; all = new })
TurnsIn-turned live place old old_border new border permutes turns = record {
  permutes = permutes;
  among = λ q there. let front = is_front old old_border q there in (front.k, front.inside, get_or_default old front.k q 0 front.inside ∙ front.here);
  front = λ is there. front_is new border place (turns.front is);
  behind = λ is there. turns.behind is (is_front new border place there);
  kept = λ q other there. front_is new border q (turns.kept q other (is_front old old_border q there));
  only = λ q other there. front_is old old_border q (turns.only q other (is_front new border q there));
}

-- a place that isn't in the list
pub TurnsIn-none : (live : Bool) (place : ℕ) (list : List ℕ) (border : ℕ) → ¬ Contains list place →
    TurnsIn live place (record { items = take border list; all = list }) (record { items = take border list; all = list })
TurnsIn-none live place list border none = record {
  permutes = IsPermutation-refl list;
  among = λ q there. let front = is_front list border q there in (front.k, front.inside, get_or_default list front.k q 0 front.inside ∙ front.here);
  front = λ is there. absurd (none there);
  behind = λ is there.
      let front = is_front list border place there in
      none (front.k, front.inside, get_or_default list front.k place 0 front.inside ∙ front.here);
  kept = λ q other there. there;
  only = λ q other there. there;
}

-- a place that was put at the end, and then to the front or not
pub AddsIn-turned : (live : Bool) (place : ℕ) (old new : LiveListData) → ¬ Contains old.all place → ((q : ℕ) → Contains old.items q → Contains old.all q) →
    TurnsIn live place (record { items = old.items; all = old.all ++ place ∷ [] }) new → AddsIn live place old new
AddsIn-turned live place old new fresh among turns =
    let longer : List ℕ = old.all ++ place ∷ [] in
    let back = IsPermutation-sym longer new.all turns.permutes in
    record {
      all = λ q. (
        λ there.
            elim (Contains-push_cases old.all place q (Contains-permutation new.all longer q back there)) [
              | inl before ↦ inl before
              | inr same ↦ inr (sym same)
            ],
        λ how.
            Contains-permutation longer new.all q turns.permutes (elim how [
              | inl before ↦ Contains-append_left old.all (place ∷ []) q before
              | inr same ↦ subst (Contains longer) (sym same) (Contains-push old.all place)
            ]),
      );
      items = λ q. (
        λ there.
            elim (cases_eq q place) [
              | inl same ↦
                  elim (cases_Bool live) [
                    | inl set ↦ inr (same, set)
                    | inr unset ↦ absurd (turns.behind unset (subst (Contains new.items) same there))
                  ]
              | inr other ↦ inl (turns.only q other there)
            ],
        λ how.
            elim how [
              | inl before ↦
                  let other : q ≢ place = λ same. fresh (subst (Contains old.all) same (among q before)) in
                  turns.kept q other before
              | inr (same, set) ↦ subst (Contains new.items) (sym same) (turns.front set (Contains-push old.all place))
            ],
      );
    }

module _ (lists : List LiveListData) (node : ℕ) (old new : LiveListData) (inside : node < length lists) (is : old ≡ slice_index_or lists node old) where
  -- what holds of the list that is written, and of each that stays, holds of all
  at_written : (P : ℕ → LiveListData → LiveListData → Type 0) → P node old new →
      ((n : ℕ) → n ≢ node → P n (list_at lists n) (list_at lists n)) →
      (n : ℕ) → P n (list_at lists n) (list_at (slice_set lists node new) n)
  at_written P here others n =
      let d : LiveListData = record { items = []; all = [] } in
      let was : list_at lists node ≡ old = get_or_default lists node d old inside ∙ sym is in
      let now : list_at (slice_set lists node new) node ≡ new = get_or-set_same lists node new d inside in
      elim (cases_eq n node) [
        | inl same ↦
            subst (λ m. P m (list_at lists m) (list_at (slice_set lists node new) m)) (sym same)
            (subst (λ list. P node list (list_at (slice_set lists node new) node)) (sym was) (subst (P node old) (sym now) here))
        | inr other ↦ subst (P n (list_at lists n)) (sym (get_or-set_other lists node n new d other)) (others n other)
      ]

  -- so a turn in one list is one at its node
  pub TurnsAtNode-written : (live : Bool) (place : ℕ) → TurnsIn live place old new → TurnsAtNode live place node lists (slice_set lists node new)
  TurnsAtNode-written live place turns = record {
    count = length-set lists node new;
    all = λ n q.
        at_written (λ m a b. Contains b.all q ↔ Contains a.all q) (
          λ there. Contains-permutation new.all old.all q (IsPermutation-sym old.all new.all turns.permutes) there,
          λ there. Contains-permutation old.all new.all q turns.permutes there,
        ) (λ m other. (λ there. there, λ there. there)) n;
    front = λ set.
        at_written (λ m a b. m ≡ node → Contains a.all place → Contains b.items place) (λ same. turns.front set) (λ m other same. absurd (other same)) node refl;
    behind = λ unset.
        at_written (λ m a b. m ≡ node → ¬ Contains b.items place) (λ same. turns.behind unset) (λ m other same. absurd (other same)) node refl;
    kept = λ n q how.
        at_written (λ m a b. Contains a.items q → Contains b.items q) (λ was.
        elim (cases_eq q place) [
          | inl here ↦
              elim how [
                | inl other ↦ absurd (other here)
                | inr set ↦ subst (Contains new.items) (sym here) (turns.front set (subst (Contains old.all) here (turns.among q was)))
              ]
          | inr other ↦ turns.kept q other was
        ]) (λ m other there. there) n;
    only = λ n q.
        at_written (λ m a b. Contains b.items q → Contains a.items q ⊎ ((m ≡ node) × (q ≡ place) × (live ≡ true))) (λ now.
        elim (cases_eq q place) [
          | inl here ↦
              elim (cases_Bool live) [
                | inl set ↦ inr (refl, here, set)
                | inr unset ↦ absurd (turns.behind unset (subst (Contains new.items) here now))
              ]
          | inr other ↦ inl (turns.only q other now)
        ]) (λ m other there. inl there) n;
  }

  -- and so is a new place in it
  pub AddsAt-written : (live : Bool) (place : ℕ) → AddsIn live place old new → AddsAt live place node lists (slice_set lists node new)
  AddsAt-written live place adds = record {
    count = length-set lists node new;
    all = λ n q.
        at_written (λ m a b. Contains b.all q ↔ (Contains a.all q ⊎ ((m ≡ node) × (q ≡ place)))) (
          λ there. elim ((adds.all q).0 there) [ inl before ↦ inl before | inr same ↦ inr (refl, same) ],
          λ how. (adds.all q).1 (elim how [ inl before ↦ inl before | inr here ↦ inr here.1 ]),
        ) (λ m other. (λ there. inl there, λ how. elim how [ inl before ↦ before | inr here ↦ absurd (other here.0) ])) n;
    items = λ n q.
        at_written (λ m a b. Contains b.items q ↔ (Contains a.items q ⊎ ((m ≡ node) × (q ≡ place) × (live ≡ true)))) (
          λ there. elim ((adds.items q).0 there) [ inl before ↦ inl before | inr same ↦ inr (refl, same.0, same.1) ],
          λ how. (adds.items q).1 (elim how [ inl before ↦ inl before | inr here ↦ inr (here.1, here.2) ]),
        ) (λ m other. (λ there. inl there, λ how. elim how [ inl before ↦ before | inr here ↦ absurd (other here.0) ])) n;
  }
