-- The first start among places, place by place, and the starts of groups, group by group.
use Rattle.std.specs.Prelude.{IfSome, option_map}
use Rattle.std.specs.Option.{option_to_list}
use Rattle.std.specs.List.Sorted.{IsStrictlyIncreasing}
use Rattle.std.proofs.lemmas.List.Kept.{AllPairs-from_increasing}
use Rattle.std.proofs.Common.{◌≡◌, ℕ, zero, suc, ◌+◌, ◌<◌, ◌≤◌, ◌⊎◌, inl, inr, Bool, true, false, List, [], ◌∷◌, ◌++◌, length, get_or, take, Contains, Option, Some, None, refl, sym, ap, ◌∙◌, subst, arith, eqb, ltb, leb, ◌||◌, ◌&&◌}
use Rattle.std.proofs.lemmas.Bool.{cases_lt, cases_order, cases_Bool, ltb-true, ltb-false, eqb-true, eqb-false, leb-true, leb-false, or_cases, or_parts, and_parts, and_cases, cond-true, cond-false}
use Rattle.std.proofs.lemmas.List.{take_more, append-nil, length-take-le, get_or-take}
use Rattle.std.proofs.lemmas.List.Elements.{Contains-push_cases, Contains-append_cases, Contains-append_left, Contains-append_right, Contains-push}
use Rattle.switch_paths.specs.declared.TheConstants.{GND, VDD}
use Rattle.switch_paths.specs.Graphs.{GraphData}
use Rattle.group_meaning.specs.Groups.{Group}
use Rattle.circuit_lint.specs.declared.starts.Start.{Start}
use Rattle.circuit_lint.specs.Conducting.{IsClosedAcross}
use Rattle.channel_groups.specs.Flood.{IsSortedFrom}
use Rattle.circuit_lint.specs.Starts.{IsStartAt, GoesFirst, IsFirstStart, FindsStart, sooner_of, soonest, BeginsIn, BeginsShort, AddsStarts, AreStarts}
use Rattle.circuit_lint.proofs.ClosedLemmas.{some_same}

none_some : {X : Type 0} {x : X} → None ≡ Some x → ⊥
none_some e = cc

-- what goes before a start goes before what that goes before
goes_on : (one two : Start) (place far : ℕ) → GoesFirst one two.place two.distance → GoesFirst two place far → GoesFirst one place far
goes_on one two place far (inl near) (inl nearer) = inl (omega (arith, near, nearer))
goes_on one two place far (inl near) (inr same) = inl (omega (arith, near, same.0))
goes_on one two place far (inr same) (inl near) = inl (omega (arith, same.0, near))
goes_on one two place far (inr one_is) (inr two_is) = inr (omega (arith, one_is.0, two_is.0), omega (arith, one_is.1, two_is.1))

goes_itself : (one : Start) → GoesFirst one one.place one.distance
goes_itself one = inr (refl, omega arith)

abbrev test : Start → Start → Bool
test one two = ltb one.distance two.distance || ((eqb one.distance two.distance) && leb one.place two.place)

-- the sooner of two goes before both, and is one of them
module _ (one two : Start) where
  passes : test one two ≡ true → GoesFirst one two.place two.distance
  passes so =
      elim (or_cases (ltb one.distance two.distance) ((eqb one.distance two.distance) && leb one.place two.place) so) [
        | inl near ↦ inl (ltb-true one.distance two.distance near)
        | inr level ↦
            let parts = and_parts (eqb one.distance two.distance) (leb one.place two.place) level in
            inr (eqb-true one.distance two.distance parts.0, leb-true one.place two.place parts.1)
      ]

  fails : test one two ≡ false → GoesFirst two one.place one.distance
  fails not_so =
      let parts = or_parts (ltb one.distance two.distance) ((eqb one.distance two.distance) && leb one.place two.place) not_so in
      let far : two.distance ≤ one.distance = ltb-false one.distance two.distance parts.0 in
      elim (cases_lt two.distance one.distance) [
        | inl near ↦ inl near
        | inr level ↦
            let same : two.distance ≡ one.distance = omega (arith, far, level) in
            elim (and_cases (eqb one.distance two.distance) (leb one.place two.place) parts.1) [
              | inl apart ↦ absurd (eqb-false one.distance two.distance apart (sym same))
              | inr behind ↦ inr (same, omega (arith, leb-false one.place two.place behind))
            ]
      ]

  sooner_is : ((sooner_of one two ≡ one) × GoesFirst one two.place two.distance) ⊎ ((sooner_of one two ≡ two) × GoesFirst two one.place one.distance)
  sooner_is =
      elim (cases_Bool (test one two)) [
        | inl so ↦ inl (cond-true (test one two) one two so, passes so)
        | inr not_so ↦ inr (cond-false (test one two) one two not_so, fails not_so)
      ]

module _ (g : GraphData) (distance : List (Option ℕ)) (places : List ℕ) (i : ℕ) (inside : i < length places) where
  -- one place more is that place, or one before
  pub before_or_here : (q : ℕ) → Contains (take (i + 1) places) q → Contains (take i places) q ⊎ (get_or places i 0 ≡ q)
  before_or_here q there = Contains-push_cases (take i places) (get_or places i 0) q (subst (λ (xs : List ℕ). Contains xs q) (take_more places i 0 inside) there)

  there_still : (q : ℕ) → Contains (take i places) q → Contains (take (i + 1) places) q
  there_still q there = subst (λ (xs : List ℕ). Contains xs q) (sym (take_more places i 0 inside)) (Contains-append_left (take i places) (get_or places i 0 ∷ []) q there)

  here_now : Contains (take (i + 1) places) (get_or places i 0)
  here_now = subst (λ (xs : List ℕ). Contains xs (get_or places i 0)) (sym (take_more places i 0 inside)) (Contains-push (take i places) (get_or places i 0))

  -- what a look at the place finds
  pub record IsFoundHere (other : Option Start) : Type 0 where
    pub place : (start : Start) → other ≡ Some start → start.place ≡ get_or places i 0
    pub is : (start : Start) → other ≡ Some start → IsStartAt g distance (get_or places i 0) start.distance
    pub all : (far : ℕ) → IsStartAt g distance (get_or places i 0) far → other ≡ Some (record { distance = far; place = get_or places i 0 })

  -- if it is the first there
  alone : (start : Start) → IsFoundHere (Some start) → (far : ℕ) → IsStartAt g distance (get_or places i 0) far → GoesFirst start (get_or places i 0) far
  alone start here far there =
      let is : start ≡ record { distance = far; place = get_or places i 0 } = some_same (here.all far there) in
      inr (ap (λ (s : Start). s.distance) is, omega (arith, ap (λ (s : Start). s.place) is))

  pub finds-more : (best other : Option Start) → FindsStart g distance (take i places) best → IsFoundHere other →
      FindsStart g distance (take (i + 1) places) (soonest best other)
  finds-more None None none here = λ place far there start.
      elim (before_or_here place there) [
        | inl before ↦ none place far before start
        | inr same ↦ none_some (here.all far (subst (λ (p : ℕ). IsStartAt g distance p far) (sym same) start))
      ]
  finds-more None (Some start) none here = record {
    among = subst (Contains (take (i + 1) places)) (sym (here.place start refl)) here_now;
    is = subst (λ (p : ℕ). IsStartAt g distance p start.distance) (sym (here.place start refl)) (here.is start refl);
    first = λ place far there is.
        elim (before_or_here place there) [
          | inl before ↦ absurd (none place far before is)
          | inr same ↦ subst (λ (p : ℕ). GoesFirst start p far) same (alone start here far (subst (λ (p : ℕ). IsStartAt g distance p far) (sym same) is))
        ];
  }
  finds-more (Some best) None found here = record {
    among = there_still best.place found.among;
    is = found.is;
    first = λ place far there is.
        elim (before_or_here place there) [
          | inl before ↦ found.first place far before is
          | inr same ↦ absurd (none_some (here.all far (subst (λ (p : ℕ). IsStartAt g distance p far) (sym same) is)))
        ];
  }
  finds-more (Some best) (Some start) found here =
      let at_best : (place far : ℕ) → Contains (take (i + 1) places) place → IsStartAt g distance place far → GoesFirst best place far ⊎ GoesFirst start place far =
      λ place far there is.
      elim (before_or_here place there) [
        | inl before ↦ inl (found.first place far before is)
        | inr same ↦ inr (subst (λ (p : ℕ). GoesFirst start p far) same (alone start here far (subst (λ (p : ℕ). IsStartAt g distance p far) (sym same) is)))
      ] in
      elim (sooner_is best start) [
        | inl one ↦ subst (IsFirstStart g distance (take (i + 1) places)) (sym one.0) (record {
          among = there_still best.place found.among;
          is = found.is;
          first = λ place far there is.
              elim (at_best place far there is) [
                | inl goes ↦ goes
                | inr goes ↦ goes_on best start place far one.1 goes
              ];
        })
        | inr two ↦ subst (IsFirstStart g distance (take (i + 1) places)) (sym two.0) (record {
          among = subst (Contains (take (i + 1) places)) (sym (here.place start refl)) here_now;
          is = subst (λ (p : ℕ). IsStartAt g distance p start.distance) (sym (here.place start refl)) (here.is start refl);
          first = λ place far there is.
              elim (at_best place far there is) [
                | inl goes ↦ goes_on start best place far two.1 goes
                | inr goes ↦ goes
              ];
        })
      ]

-- at no place there is none
pub finds-none : (g : GraphData) (distance : List (Option ℕ)) → FindsStart g distance [] None
finds-none g distance place far there = absurd (omega (arith, there.1))

-- of a start that was found there is but one
start_one : (g : GraphData) (distance : List (Option ℕ)) (places : List ℕ) (found : Option Start) (start : Start) → FindsStart g distance places found →
    IsFirstStart g distance places start → (one : Start) × (found ≡ Some one) × (one.place ≡ start.place)
start_one g distance places None start none is = absurd (none start.place start.distance is.among is.is)
start_one g distance places (Some one) start found is =
    (one, refl, both (found.first start.place start.distance is.among is.is) (is.first one.place one.distance found.among found.is))
  where
    both : GoesFirst one start.place start.distance → GoesFirst start one.place one.distance → one.place ≡ start.place
    both (inl near) (inl nearer) = absurd (omega (arith, near, nearer))
    both (inl near) (inr same) = absurd (omega (arith, near, same.0))
    both (inr same) (inl near) = absurd (omega (arith, same.0, near))
    both (inr one_is) (inr two_is) = omega (arith, one_is.1, two_is.1)

-- no group was looked at
pub adds-none : (g : GraphData) (distance : List (Option ℕ)) (starts : List ℕ) → AddsStarts g distance [] starts starts
adds-none g distance starts = record {
  kept = λ place there. there;
  only = λ place there. inl there;
  all = λ place begins. absurd (omega (arith, begins.1.1));
  some = λ group place far there. absurd (omega (arith, there.1));
}

-- one group more
module _ (g : GraphData) (distance : List (Option ℕ)) (groups : List Group) (i : ℕ) (group : Group)
    (inside : i < length groups) (is_there : get_or groups i group ≡ group)
    (old mid : List ℕ) (so_far : AddsStarts g distance (take i groups) old mid) where
  grown : take (i + 1) groups ≡ take i groups ++ group ∷ []
  grown = take_more groups i group inside ∙ ap (λ last. take i groups ++ last ∷ []) is_there

  earlier : (place : ℕ) → BeginsIn g distance (take i groups) place → BeginsIn g distance (take (i + 1) groups) place
  earlier place (one, there, begins) =
      (one, subst (λ (xs : List Group). Contains xs one) (sym grown) (Contains-append_left (take i groups) (group ∷ []) one there), begins)

  cases : (place : ℕ) → BeginsIn g distance (take (i + 1) groups) place →
      BeginsIn g distance (take i groups) place ⊎ ((start : Start) × IsFirstStart g distance group.switches start × (start.place ≡ place))
  cases place (one, there, begins) =
      elim (Contains-push_cases (take i groups) group one (subst (λ (xs : List Group). Contains xs one) grown there)) [
        | inl before ↦ inl (one, before, begins)
        | inr same ↦ inr (begins.0, subst (λ (it : Group). IsFirstStart g distance it.switches begins.0) (sym same) begins.1, begins.2)
      ]

  -- its starts, and those of the groups before
  some_of : ((place far : ℕ) → Contains group.switches place → IsStartAt g distance place far → (start : Start) × IsFirstStart g distance group.switches start) →
      (one : Group) (place far : ℕ) → Contains (take (i + 1) groups) one → Contains one.switches place → IsStartAt g distance place far →
      (start : Start) × IsFirstStart g distance one.switches start
  some_of here one place far there within starts =
      elim (Contains-push_cases (take i groups) group one (subst (λ (xs : List Group). Contains xs one) grown there)) [
        | inl before ↦ so_far.some one place far before within starts
        | inr same ↦
            let found = here place far (subst (λ (it : Group). Contains it.switches place) (sym same) within) starts in
            (found.0, subst (λ (it : Group). IsFirstStart g distance it.switches found.0) same found.1)
      ]

  -- it has a start
  pub adds-some : (start : Start) → IsFirstStart g distance group.switches start → AddsStarts g distance (take (i + 1) groups) old (mid ++ start.place ∷ [])
  adds-some start is = record {
    kept = λ place there. Contains-append_left mid (start.place ∷ []) place (so_far.kept place there);
    only = λ place there.
        elim (Contains-push_cases mid start.place place there) [
          | inl before ↦ elim (so_far.only place before) [ inl was ↦ inl was | inr begins ↦ inr (earlier place begins) ]
          | inr same ↦ inr (group, subst (λ (xs : List Group). Contains xs group) (sym grown) (Contains-push (take i groups) group), (start, is, same))
        ];
    all = λ place begins.
        elim (cases place begins) [
          | inl before ↦ Contains-append_left mid (start.place ∷ []) place (so_far.all place before)
          | inr here ↦
              let one = start_one g distance group.switches (Some start) here.0 is here.1 in
              let same : start.place ≡ place = ap (λ (s : Start). s.place) (some_same one.1) ∙ one.2 ∙ here.2 in
              subst (Contains (mid ++ start.place ∷ [])) same (Contains-push mid start.place)
        ];
    some = some_of (λ place far within starts. (start, is));
  }

  -- or it has none
  pub adds-no : FindsStart g distance group.switches None → AddsStarts g distance (take (i + 1) groups) old mid
  adds-no none = record {
    kept = so_far.kept;
    only = λ place there. elim (so_far.only place there) [ inl was ↦ inl was | inr begins ↦ inr (earlier place begins) ];
    all = λ place begins.
        elim (cases place begins) [
          | inl before ↦ so_far.all place before
          | inr here ↦ absurd (none here.0.place here.0.distance here.1.among here.1.is)
        ];
    some = some_of (λ place far within starts. absurd (none place far within starts));
  }

  -- whatever it is
  pub adds-more : (found : Option Start) (new : List ℕ) → FindsStart g distance group.switches found →
      new ≡ mid ++ option_to_list (option_map (λ start. start.place) found) →
      AddsStarts g distance (take (i + 1) groups) old new
  adds-more None new none grown = subst (AddsStarts g distance (take (i + 1) groups) old) (sym (grown ∙ append-nil mid)) (adds-no none)
  adds-more (Some start) new is grown = subst (AddsStarts g distance (take (i + 1) groups) old) (sym grown) (adds-some start is)

-- one place more, if a switch between the rails stands there
module _ (g : GraphData) (places : List ℕ) (i : ℕ) (inside : i < length places) (old new : List ℕ) (found : Option ℕ)
    (is : IfSome found (λ one. one ≡ get_or places i 0)) (joined : IfSome found (λ _. IsClosedAcross g (get_or places i 0) VDD GND))
    (all : IsClosedAcross g (get_or places i 0) VDD GND → found ≡ Some (get_or places i 0)) (grown : new ≡ old ++ option_to_list found) where
  pub directs-only : ((place : ℕ) → Contains old place → IsClosedAcross g place VDD GND) → (place : ℕ) → Contains new place → IsClosedAcross g place VDD GND
  directs-only only place there =
      elim (Contains-append_cases old (option_to_list found) place (subst (λ (xs : List ℕ). Contains xs place) grown there)) [
        | inl before ↦ only place before
        | inr here ↦ by found is joined here
      ]
    where
      by : (o : Option ℕ) → IfSome o (λ one. one ≡ get_or places i 0) → IfSome o (λ _. IsClosedAcross g (get_or places i 0) VDD GND) →
          Contains (option_to_list o) place → IsClosedAcross g place VDD GND
      by None at between within = absurd (omega (arith, within.1))
      by (Some one) at between within = subst (λ (p : ℕ). IsClosedAcross g p VDD GND) (sym at ∙ single one within) between
        where
          single : (one : ℕ) → Contains (one ∷ []) place → one ≡ place
          single one (zero, low, same) = same
          single one (suc k, low, same) = absurd (omega (arith, low))

  pub directs-all : ((place : ℕ) → Contains (take i places) place → IsClosedAcross g place VDD GND → Contains old place) →
      (place : ℕ) → Contains (take (i + 1) places) place → IsClosedAcross g place VDD GND → Contains new place
  directs-all before place there between =
      subst (λ (xs : List ℕ). Contains xs place) (sym grown)
      (elim (before_or_here g [] places i inside place there) [
        | inl was ↦ Contains-append_left old (option_to_list found) place (before place was between)
        | inr same ↦
            let some = all (subst (λ (p : ℕ). IsClosedAcross g p VDD GND) (sym same) between) in
            subst (λ (o : Option ℕ). Contains (old ++ option_to_list o) place) (sym some)
            (Contains-append_right old (get_or places i 0 ∷ []) place (0, omega arith, same))
      ])

-- of ascending places the first that isn't among those before is no higher than any other that isn't
pub first_among : (places : List ℕ) (i other : ℕ) → IsStrictlyIncreasing places → i < length places → ¬ Contains (take i places) other → Contains places other →
    get_or places i 0 ≤ other
first_among places i other up inside unseen (j, low, same) =
    elim (cases_order j i) [
      | inl at ↦ omega (arith, item_at places i other low at ∙ same)
      | inr apart ↦
          elim apart [
            | inl before ↦ absurd (unseen (j, omega (arith, before, length-take-le i places (omega (arith, inside))), get_or-take i places j other before ∙ same))
            | inr behind ↦
                let rises = AllPairs-from_increasing places up i j other behind low in
                omega (arith, rises, same, item_default places i inside other)
          ]
    ]
  where
    item_default : (xs : List ℕ) (k : ℕ) → k < length xs → (d : ℕ) → get_or xs k 0 ≡ get_or xs k d
    item_default [] k inside d = absurd (omega (arith, inside))
    item_default (x ∷ xs) zero inside d = refl
    item_default (x ∷ xs) (suc k) inside d = item_default xs k (omega (arith, inside)) d

    item_at : (xs : List ℕ) (i other : ℕ) → j < length xs → j ≡ i → get_or xs i 0 ≡ get_or xs j other
    item_at xs i other low at = ap (λ k. get_or xs k 0) (sym at) ∙ item_default xs j low other

-- direct switches, and the starts of all groups, in any order
pub AreStarts-all : (g : GraphData) (distance : List (Option ℕ)) (groups : List Group) (direct added sorted : List ℕ) →
    ((place : ℕ) → Contains direct place → IsClosedAcross g place VDD GND) → ((place : ℕ) → IsClosedAcross g place VDD GND → Contains direct place) →
    AddsStarts g distance groups direct added → IsSortedFrom added sorted → AreStarts g distance groups sorted
AreStarts-all g distance groups direct added sorted only all adds same = record {
  only = λ place there.
      elim (adds.only place (same.only place there)) [
        | inl was ↦ inl (only place was)
        | inr begins ↦ inr begins
      ];
  all = λ place begins. same.all place (by place begins);
  some = adds.some;
}
  where
    by : (place : ℕ) → BeginsShort g distance groups place → Contains added place
    by place (inl joined) = adds.kept place (all place joined)
    by place (inr begins) = adds.all place begins
