-- The places at each node: as they are listed one by one, and when a place is moved from one node to another.
use Rattle.std.proofs.Common.{◌≡◌, ◌≢◌, ℕ, ◌+◌, ◌<◌, ◌≤◌, ◌⊎◌, inl, inr, Bool, cond, List, [], ◌∷◌, ◌++◌, length, map, get_or, set, filter, nat_eq, Contains, Option, Some, None, refl, sym, ap, subst, ◌∙◌, arith}
use Rattle.std.specs.List.{IsDistinct, list_any}
use Rattle.std.specs.List.Retain.{RetainsInTurn}
use Rattle.std.proofs.lemmas.Bool.{cases_lt, cases_eq, cases_Bool, eqb-true}
use Rattle.std.proofs.lemmas.Cmp.{nat_eq_equiv}
use Rattle.std.proofs.lemmas.List.{length-map, get_or-map, get_or_past, map-set, map_push, get_or-set_same, get_or-set_other, get_or_append_left, get_or_push, length_push}
use Rattle.std.proofs.lemmas.List.Elements.{Contains-push, Contains-push_cases, Contains-append_left}
use Rattle.std.proofs.lemmas.Map.Keys.{IsDistinct-push}
use Rattle.indexmap.proofs.CallerLemmas.{Contains-list_any}
use Rattle.smallvec.specs.SmallVec.{SmallVec}
use Rattle.switch_paths.specs.declared.switching.Switch.{Switch}
use Rattle.switch_paths.specs.Graphs.{GraphData, place_at}
use Rattle.switch_paths.proofs.PathLemmas.{place_inside}
use Rattle.channel_groups.specs.Listing.{places_of, HasEndAt, AreListed, AreListedTo, SetsAt, Moves}
use Rattle.list_facts.specs.Taking.{TakesOut}

module _ (lists : List (SmallVec ℕ)) where
  -- the list that stands at a node
  pub places_of-at : (node : ℕ) (v : SmallVec ℕ) → node < length lists → places_of lists node ≡ (get_or lists node v).items
  places_of-at node v inside = get_or-map (λ places. places.items) lists node v [] inside

  pub places_of-past : (node : ℕ) → length lists ≤ node → places_of lists node ≡ []
  places_of-past node past = get_or_past (map (λ places. places.items) lists) node [] (omega (arith, length-map lists (λ places. places.items)))

  -- one list is written anew
  pub places_of-set : (node : ℕ) (v : SmallVec ℕ) → node < length lists → SetsAt node v.items (places_of lists) (places_of (set lists node v))
  places_of-set node v inside =
      let moved : map (λ (places : SmallVec ℕ). places.items) (set lists node v) ≡ set (map (λ places. places.items) lists) node v.items = map-set (λ places. places.items) lists node v in
      record {
        at =
            ap (λ (xs : List (List ℕ)). get_or xs node []) moved
            ∙ get_or-set_same (map (λ places. places.items) lists) node v.items [] (omega (arith, inside, length-map lists (λ places. places.items)));
        others = λ n other.
            ap (λ (xs : List (List ℕ)). get_or xs n []) moved
            ∙ get_or-set_other (map (λ places. places.items) lists) node n v.items [] other;
      }

  -- an empty list more changes nothing
  pub places_of-push : (v : SmallVec ℕ) → v.items ≡ [] → (n : ℕ) → places_of (lists ++ v ∷ []) n ≡ places_of lists n
  places_of-push v empty n =
      let all = map (λ (places : SmallVec ℕ). places.items) lists in
      let count : length all ≡ length lists = length-map lists (λ places. places.items) in
      let more : map (λ (places : SmallVec ℕ). places.items) (lists ++ v ∷ []) ≡ all ++ v.items ∷ [] = map_push (λ places. places.items) lists v in
      ap (λ (xs : List (List ℕ)). get_or xs n []) more
      ∙ (elim (cases_lt n (length all)) [
        | inl inside ↦ get_or_append_left all (v.items ∷ []) [] n inside
        | inr past ↦
            elim (cases_eq (length all) n) [
              | inl same ↦ get_or_push all v.items [] n same ∙ empty ∙ sym (get_or_past all n [] past)
              | inr other ↦ get_or_past (all ++ v.items ∷ []) n [] (omega (arith, length_push all v.items)) ∙ sym (get_or_past all n [] past)
            ]
      ])

-- where no call changes the closure or the element, `retain` leaves what passes the test
pub filter-from_retain : {X F : Type 0} (R : F → X → Bool → F → X → Type 0) (test : X → Bool) (f : F)
    → ((x : X) (b : Bool) (f' : F) (y : X) → R f x b f' y → (b ≡ test x) × (f' ≡ f) × (y ≡ x))
    → (xs ys : List X) → RetainsInTurn R f xs ys → ys ≡ filter test xs
filter-from_retain R test f says [] ys h = h
filter-from_retain R test f says (x ∷ xs) ys h =
    let said = says x h.0 h.1 h.2 h.3 in
    let later = subst (λ g. RetainsInTurn R g xs h.4) said.1 h.5 in
    let rest = filter-from_retain R test f says xs h.4 later in
    h.6 ∙ (λ i. cond (said.0 i) (said.2 i ∷ rest i) (rest i))

-- a place more in a list that doesn't have it
distinct_more : (xs : List ℕ) (x : ℕ) → IsDistinct nat_eq xs → (¬ Contains xs x) → IsDistinct nat_eq (xs ++ x ∷ [])
distinct_more xs x distinct none =
    IsDistinct-push nat_eq_equiv xs x distinct
    (elim (cases_Bool (list_any (nat_eq x) xs)) [
      | inl there ↦ absurd (none (Contains-list_any nat_eq (λ a b e. eqb-true a b e) xs x there))
      | inr fails ↦ fails
    ])

module _ (end : Switch → ℕ) (g : GraphData) where
  -- before the first place none is listed
  pub AreListedTo-none : (lists : ℕ → List ℕ) → ((n : ℕ) → lists n ≡ []) → AreListedTo end g 0 lists
  unfolding IsDistinct
  AreListedTo-none lists none = record {
    all = λ place node below at. absurd (omega arith);
    only = λ place node there. let nothing = rw (none node) at there in absurd (omega (arith, nothing.1));
    distinct = λ node. rw (none node) tt;
  }

  -- an empty place is listed nowhere
  pub AreListedTo-empty : (count : ℕ) (lists : ℕ → List ℕ) → place_at g.places count ≡ None → AreListedTo end g count lists → AreListedTo end g (count + 1) lists
  AreListedTo-empty count lists empty so_far = record {
    all = λ place node below at.
        elim (cases_lt place count) [
          | inl before ↦ so_far.all place node before at
          | inr last ↦
              let same : place ≡ count = omega arith in
              let none = ap (place_at g.places) same ∙ empty in
              absurd (cc (none, at.at_place))
        ];
    only = λ place node there. let was = so_far.only place node there in (was.0, omega (arith, was.1));
    distinct = so_far.distinct;
  }

  -- a switch is listed at its end
  pub AreListedTo-more : (count : ℕ) (switch : Switch) (old new : ℕ → List ℕ) → place_at g.places count ≡ Some switch →
      SetsAt (end switch) (old (end switch) ++ count ∷ []) old new → AreListedTo end g count old → AreListedTo end g (count + 1) new
  AreListedTo-more count switch old new stands sets so_far =
      let node = end switch in
      let kept : (n place : ℕ) → Contains (old n) place → Contains (new n) place =
      λ n place there.
      elim (cases_eq n node) [
        | inl same ↦
            let there_now : Contains (new node) place = rw sets.at (Contains-append_left (old node) (count ∷ []) place (subst (λ m. Contains (old m) place) same there)) in
            subst (λ m. Contains (new m) place) (sym same) there_now
        | inr other ↦ rw (sets.others n other) there
      ] in
      record {
        all = λ place n below at.
            elim (cases_lt place count) [
              | inl before ↦ kept n place (so_far.all place n before at)
              | inr last ↦
                  let same : place ≡ count = omega arith in
                  let one : at.switch ≡ switch = cc (at.at_place, ap (place_at g.places) same, stands) in
                  let here : node ≡ n = ap end (sym one) ∙ at.at_node in
                  let there : Contains (new node) count = rw sets.at (Contains-push (old node) count) in
                  subst (λ m. Contains (new m) place) here (subst (Contains (new node)) (sym same) there)
            ];
        only = λ place n there.
            elim (cases_eq n node) [
              | inl same ↦
                  let there_now : Contains (old node ++ count ∷ []) place = rw sets.at at (subst (λ m. Contains (new m) place) same there) in
                  elim (Contains-push_cases (old node) count place there_now) [
                    | inl before ↦ let was = so_far.only place node before in (subst (HasEndAt end g place) (sym same) was.0, omega (arith, was.1))
                    | inr last ↦
                        (record { switch = switch; at_place = ap (place_at g.places) (sym last) ∙ stands; at_node = sym same }, omega (arith, last))
                  ]
              | inr other ↦ let was = so_far.only place n (rw (sets.others n other) at there) in (was.0, omega (arith, was.1))
            ];
        distinct = λ n.
            elim (cases_eq n node) [
              | inl same ↦
                  subst (λ m. IsDistinct nat_eq (new m)) (sym same)
                  (rw sets.at (distinct_more (old node) count (so_far.distinct node) (λ there. let was = so_far.only count node there in omega (arith, was.1))))
              | inr other ↦ rw (sets.others n other) (so_far.distinct n)
            ];
      }

  -- with all places listed
  pub AreListed-all : (lists : ℕ → List ℕ) → AreListedTo end g (length g.places) lists → AreListed end g None lists
  AreListed-all lists listed = record {
    all = λ place node at. inl (listed.all place node (place_inside g.places place at.switch at.at_place) at);
    only = λ place node there. inl (listed.only place node there).0;
    distinct = listed.distinct;
  }

module _ (end : Switch → ℕ) (g h : GraphData) where
  -- with no place changed the lists are right still
  pub AreListed-same : (lists : ℕ → List ℕ) → g.places ≡ h.places → AreListed end g None lists → AreListed end h None lists
  AreListed-same lists same listed = record {
    all = λ place node at. listed.all place node
        (record { switch = at.switch; at_place = ap (λ places. place_at places place) same ∙ at.at_place; at_node = at.at_node });
    only = λ place node there. elim (listed.only place node there) [
      | inl at ↦ inl (record { switch = at.switch; at_place = ap (λ places. place_at places place) (sym same) ∙ at.at_place; at_node = at.at_node })
      | inr none ↦ inr none
    ];
    distinct = listed.distinct;
  }

  module _ (changed : ℕ) (others : (q : ℕ) → q ≢ changed → place_at g.places q ≡ place_at h.places q) where
    there_too : (place node : ℕ) → place ≢ changed → HasEndAt end g place node → HasEndAt end h place node
    there_too place node other at = record { switch = at.switch; at_place = sym (others place other) ∙ at.at_place; at_node = at.at_node }

    there_before : (place node : ℕ) → place ≢ changed → HasEndAt end h place node → HasEndAt end g place node
    there_before place node other at = record { switch = at.switch; at_place = others place other ∙ at.at_place; at_node = at.at_node }

    -- but for the changed place the lists of the graph before are those of the graph now
    pub AreListed-changed : (lists : ℕ → List ℕ) → AreListed end g None lists → AreListed end h (Some changed) lists
    AreListed-changed lists listed = record {
      all = λ place node at.
          elim (cases_eq place changed) [
            | inl same ↦ inr (ap Some (sym same))
            | inr other ↦ elim (listed.all place node (there_before place node other at)) [ inl there ↦ inl there | inr none ↦ absurd (cc (none)) ]
          ];
      only = λ place node there.
          elim (cases_eq place changed) [
            | inl same ↦ inr (ap Some (sym same))
            | inr other ↦ elim (listed.only place node there) [ inl at ↦ inl (there_too place node other at) | inr none ↦ absurd (cc (none)) ]
          ];
      distinct = listed.distinct;
    }

    -- with the changed place moved they are right
    pub AreListed-moved : (from to : Option ℕ) (old new : ℕ → List ℕ) → ((n : ℕ) → HasEndAt end g changed n → from ≡ Some n) →
        ((n : ℕ) → HasEndAt end h changed n → to ≡ Some n) → ((n : ℕ) → to ≡ Some n → HasEndAt end h changed n) →
        AreListed end g None old → Moves changed from to old new → AreListed end h None new
    AreListed-moved from to old new was now now_back listed moves =
        let at_before : (place node : ℕ) → Contains (old node) place → HasEndAt end g place node =
        λ place node there. elim (listed.only place node there) [ inl at ↦ at | inr none ↦ absurd (cc (none)) ] in
        record {
          all = λ place node at.
              elim (cases_eq place changed) [
                | inl same ↦ inl (rw same (moves.put node (now node (subst (λ one. HasEndAt end h one node) same at))))
                | inr other ↦ elim (listed.all place node (there_before place node other at)) [
                  | inl there ↦ inl (moves.kept node place other there)
                  | inr none ↦ absurd (cc (none))
                ]
              ];
          only = λ place node there. inl
              (elim (moves.only node place there) [
                | inl before ↦
                    let at = at_before place node before.0 in
                    elim (cases_eq place changed) [
                      | inl same ↦ absurd (before.1 (was node (subst (λ one. HasEndAt end g one node) same at)) same)
                      | inr other ↦ there_too place node other at
                    ]
                | inr new_one ↦ subst (λ one. HasEndAt end h one node) (sym new_one.1) (now_back node new_one.0)
              ]);
          distinct = moves.distinct listed.distinct (λ n there. was n (at_before changed n there));
        }

-- taken out at the one node and put in at the other a place is moved
pub Moves-made : (place : ℕ) (from to : Option ℕ) (old middle new : ℕ → List ℕ) → ((n : ℕ) → IsDistinct nat_eq (old n)) →
    ((n : ℕ) → from ≡ Some n → TakesOut place (old n) (middle n)) → ((n : ℕ) → ¬ (from ≡ Some n) → middle n ≡ old n) →
    ((n : ℕ) → to ≡ Some n → new n ≡ middle n ++ place ∷ []) → ((n : ℕ) → ¬ (to ≡ Some n) → new n ≡ middle n) → Moves place from to old new
Moves-made place from to old middle new distinct out out_others in_at in_others =
    let is_at : (o : Option ℕ) (n : ℕ) → (o ≡ Some n) ⊎ (¬ (o ≡ Some n)) = decide in
    let keeps : (n q : ℕ) → q ≢ place → Contains (old n) q → Contains (middle n) q = λ n q other there.
    elim (is_at from n) [
      | inl at ↦ (out n at).kept q other there
      | inr elsewhere ↦ rw (out_others n elsewhere) there
    ] in
    let from_old : (n q : ℕ) → Contains (middle n) q → Contains (old n) q × ((from ≡ Some n) → q ≢ place) = λ n q there.
    elim (is_at from n) [
      | inl at ↦ let was = (out n at).only q there in (was.0, (λ _. was.1))
      | inr elsewhere ↦ (rw (out_others n elsewhere) at there, (λ at. absurd (elsewhere at)))
    ] in
    record {
      kept = λ n q other there.
          elim (is_at to n) [
            | inl at ↦ rw (in_at n at) (Contains-append_left (middle n) (place ∷ []) q (keeps n q other there))
            | inr elsewhere ↦ rw (in_others n elsewhere) (keeps n q other there)
          ];
      only = λ n q there.
          elim (is_at to n) [
            | inl at ↦ elim (Contains-push_cases (middle n) place q (rw (in_at n at) at there)) [
              | inl before ↦ inl (from_old n q before)
              | inr same ↦ inr (at, sym same)
            ]
            | inr elsewhere ↦ inl (from_old n q (rw (in_others n elsewhere) at there))
          ];
      put = λ n at. rw (in_at n at) (Contains-push (middle n) place);
      distinct = λ all at_from n.
          let middle_distinct : IsDistinct nat_eq (middle n) =
          elim (is_at from n) [
            | inl at ↦ (out n at).distinct
            | inr elsewhere ↦ rw (out_others n elsewhere) (distinct n)
          ] in
          elim (is_at to n) [
            | inl at ↦
                rw (in_at n at)
                (distinct_more (middle n) place middle_distinct (λ there.
                let was = from_old n place there in
                was.1 (at_from n was.0) refl))
            | inr elsewhere ↦ rw (in_others n elsewhere) middle_distinct
          ];
    }
  where
    decide : (o : Option ℕ) (n : ℕ) → (o ≡ Some n) ⊎ (¬ (o ≡ Some n))
    decide None n = inr (λ same. absurd (cc))
    decide (Some m) n = elim (cases_eq m n) [ inl same ↦ inl (ap Some same) | inr other ↦ inr (λ same. other (cc)) ]

module _ (lists : List (SmallVec ℕ)) (node : ℕ) (v w : SmallVec ℕ) (inside : node < length lists) (read : v ≡ get_or lists node v) where
  -- the list that was read
  pub list_read : places_of lists node ≡ v.items
  list_read = places_of-at lists node v inside ∙ ap (λ (places : SmallVec ℕ). places.items) (sym read)

  -- a list is written anew from what was read
  pub SetsAt-written : (f : List ℕ → List ℕ) → w.items ≡ f v.items → SetsAt node (f (places_of lists node)) (places_of lists) (places_of (set lists node w))
  SetsAt-written f written =
      let sets = places_of-set lists node w inside in
      record { at = sets.at ∙ written ∙ ap f (sym list_read); others = sets.others }

  -- a list is written as it was
  pub places_of-same : w.items ≡ v.items → (n : ℕ) → places_of (set lists node w) n ≡ places_of lists n
  places_of-same written n =
      let sets = SetsAt-written (λ places. places) written in
      elim (cases_eq n node) [
        | inl same ↦ subst (λ m. places_of (set lists node w) m ≡ places_of lists m) (sym same) sets.at
        | inr other ↦ sets.others n other
      ]

-- what is said of the one node said of the node that is named
pub named_at : (from : Option ℕ) (node : ℕ) (value : ℕ → List ℕ) (old new : ℕ → List ℕ) → from ≡ Some node → SetsAt node (value node) old new →
    (n : ℕ) → from ≡ Some n → new n ≡ value n
named_at from node value old new is sets n at =
    let same : node ≡ n = cc (is, at) in
    subst (λ m. new m ≡ value m) same sets.at

pub named_others : (from : Option ℕ) (node : ℕ) (value : List ℕ) (old new : ℕ → List ℕ) → from ≡ Some node → SetsAt node value old new →
    (n : ℕ) → ¬ (from ≡ Some n) → new n ≡ old n
named_others from node value old new is sets n elsewhere = sets.others n (λ same. elsewhere (is ∙ ap Some (sym same)))

-- a place is taken out of the list of the node that is named
pub taken_at : (from : Option ℕ) (node place : ℕ) (lists : List (SmallVec ℕ)) (v w : SmallVec ℕ) → node < length lists → v ≡ get_or lists node v →
    from ≡ Some node → TakesOut place v.items w.items → (n : ℕ) → from ≡ Some n → TakesOut place (places_of lists n) (places_of (set lists node w) n)
taken_at from node place lists v w inside read is taken n at =
    let same : node ≡ n = cc (is, at) in
    let sets = SetsAt-written lists node v w inside read (λ _. w.items) refl in
    let old : places_of lists node ≡ v.items = list_read lists node v w inside read in
    subst (λ (m : ℕ). TakesOut place (places_of lists m) (places_of (set lists node w) m)) same
    (subst (λ (xs : List ℕ). TakesOut place xs (places_of (set lists node w) node)) (sym old)
    (subst (λ (ys : List ℕ). TakesOut place v.items ys) (sym sets.at) taken))
