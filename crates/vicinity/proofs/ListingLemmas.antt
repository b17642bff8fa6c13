-- The places of a graph are listed, one after the other, at the ends of their switches and at their gates.
use Rattle.std.proofs.Common.{◌≡◌, ◌≢◌, ℕ, zero, suc, ◌+◌, ◌<◌, inl, inr, ◌⊎◌, Some, None, Bool, true, List, [], length, refl, sym, ap, subst, ◌∙◌, arith}
use Rattle.std.specs.Prelude.{◌↔◌, Contains, replicate}
use Rattle.std.proofs.lemmas.Bool.{cases_eq}
use Rattle.ternary.specs.declared.tern.Tern.{Tern}
use Rattle.switch_paths.specs.declared.switching.Switch.{Switch}
use Rattle.switch_paths.specs.Switching.{is_live, switch_state_at}
use Rattle.switch_paths.specs.Graphs.{GraphData, nodes, place_at}
use Rattle.switch_paths.specs.Path.{Joins}
use Rattle.switch_paths.proofs.PathLemmas.{place_inside}
use Rattle.vicinity.specs.Lists.{LiveListData, LiveListsData, list_at, places_of, all_at}
use Rattle.vicinity.specs.Arms.{LeadsTo}
use Rattle.vicinity.specs.LiveLists.{HasEnd, HasGate, AreListsOf, AddsAt, AddsEnds, AreListedBelow}

-- a list without places
abbrev pub empty_list : LiveListData
empty_list = record { items = []; all = [] }

nothing_at : (count node : ℕ) → list_at (replicate count empty_list) node ≡ empty_list
nothing_at zero node = refl
nothing_at (suc count) zero = refl
nothing_at (suc count) (suc node) = nothing_at count node

-- what was added at one end, and then at the other, was added at one of both
added_twice : {New Mid Old A B Rest : Type 0} → Mid ↔ (Old ⊎ (A × Rest)) → New ↔ (Mid ⊎ (B × Rest)) → New ↔ (Old ⊎ ((A ⊎ B) × Rest))
added_twice first next = (
  λ there.
      elim (next.0 there) [
        | inl between ↦
            elim (first.0 between) [
              | inl before ↦ inl before
              | inr here ↦ inr (inl here.0, here.1)
            ]
        | inr here ↦ inr (inr here.0, here.1)
      ],
  λ how.
      next.1 (elim how [
        | inl before ↦ inl (first.1 (inl before))
        | inr (inl at_a, is) ↦ inl (first.1 (inr (at_a, is)))
        | inr (inr at_b, is) ↦ inr (at_b, is)
      ]),
)

-- and so it is if they are one
added_once : {New Old A B Rest : Type 0} → (B → A) → New ↔ (Old ⊎ (A × Rest)) → New ↔ (Old ⊎ ((A ⊎ B) × Rest))
added_once same adds = (
  λ there. elim (adds.0 there) [ inl before ↦ inl before | inr here ↦ inr (inl here.0, here.1) ],
  λ how.
      adds.1 (elim how [
        | inl before ↦ inl before
        | inr (inl at_a, is) ↦ inr (at_a, is)
        | inr (inr at_b, is) ↦ inr (same at_b, is)
      ]),
)

-- both ends of a switch that differ, or that are one node
pub AddsEnds-both : (live : Bool) (place : ℕ) (switch : Switch) (old mid new : List LiveListData) → AddsAt live place switch.a old mid →
    AddsAt live place switch.b mid new → AddsEnds live place switch old new
AddsEnds-both live place switch old mid new first next = record {
  count = next.count ∙ first.count;
  all = λ n q. added_twice (first.all n q) (next.all n q);
  items = λ n q. (
    λ there.
        elim ((next.items n q).0 there) [
          | inl between ↦
              elim ((first.items n q).0 between) [
                | inl before ↦ inl before
                | inr here ↦ inr (inl here.0, here.1, here.2)
              ]
          | inr here ↦ inr (inr here.0, here.1, here.2)
        ],
    λ how.
        (next.items n q).1 (elim how [
          | inl before ↦ inl ((first.items n q).1 (inl before))
          | inr (inl at_a, is, set) ↦ inl ((first.items n q).1 (inr (at_a, is, set)))
          | inr (inr at_b, is, set) ↦ inr (at_b, is, set)
        ]),
  );
}

pub AddsEnds-same : (live : Bool) (place : ℕ) (switch : Switch) (old new : List LiveListData) → switch.b ≡ switch.a → AddsAt live place switch.a old new →
    AddsEnds live place switch old new
AddsEnds-same live place switch old new same adds = record {
  count = adds.count;
  all = λ n q. added_once (λ at_b. at_b ∙ same) (adds.all n q);
  items = λ n q. (
    λ there. elim ((adds.items n q).0 there) [ inl before ↦ inl before | inr here ↦ inr (inl here.0, here.1, here.2) ],
    λ how.
        (adds.items n q).1 (elim how [
          | inl before ↦ inl before
          | inr (inl at_a, is, set) ↦ inr (at_a, is, set)
          | inr (inr at_b, is, set) ↦ inr (at_b ∙ same, is, set)
        ]),
  );
}

-- if a place was put at one end, it isn't at the other yet
pub fresh_still : (live : Bool) (place : ℕ) (switch : Switch) (old mid : List LiveListData) → AddsAt live place switch.a old mid → switch.b ≢ switch.a →
    ((node : ℕ) → ¬ Contains (all_at old node) place) → ¬ Contains (all_at mid switch.b) place
fresh_still live place switch old mid adds apart fresh there = elim ((adds.all switch.b place).0 there) [
  | inl before ↦ fresh switch.b before
  | inr here ↦ apart here.0
]

module _ (g : GraphData) (state : List Tern) (place : ℕ) (ends gates : List LiveListData) (below : AreListedBelow g state place ends gates) where
  -- the next place isn't listed yet
  pub fresh_end : (node : ℕ) → ¬ Contains (all_at ends node) place
  fresh_end node there = absurd (omega (arith, ((below.whole node place).0 there).0))

  pub fresh_gate : (node : ℕ) → ¬ Contains (all_at gates node) place
  fresh_gate node there = absurd (omega (arith, below.all_gated node place there))

  -- an empty place
  pub AreListedBelow-empty : place_at g.places place ≡ None → AreListedBelow g state (place + 1) ends gates
  AreListedBelow-empty empty =
      let earlier : (q : ℕ) (switch : Switch) → q < place + 1 → place_at g.places q ≡ Some switch → q < place = λ q switch most stands.
      elim (cases_eq q place) [
        | inl same ↦ absurd (cc (empty, subst (λ p. place_at g.places p ≡ Some switch) same stands))
        | inr other ↦ omega (arith, most, other)
      ] in
      record {
        counted = below.counted;
        gates_counted = below.gates_counted;
        live = λ node q. (
          λ there.
              let (first, leads) = (below.live node q).0 there in
              (omega (arith, first), leads),
          λ is. (below.live node q).1 (earlier q is.1.1.switch is.0 is.1.1.at_place, is.1),
        );
        whole = λ node q. (
          λ there.
              let (first, end) = (below.whole node q).0 there in
              (omega (arith, first), end),
          λ is. (below.whole node q).1 (earlier q is.1.switch is.0 is.1.at_place, is.1),
        );
        gated = λ node q. (
          λ there.
              let (first, gate) = (below.gated node q).0 there in
              (omega (arith, first), gate),
          λ is. (below.gated node q).1 (earlier q is.1.switch is.0 is.1.at_place, is.1),
        );
        all_gated = λ node q there. omega (arith, below.all_gated node q there);
      }

  -- the place of a switch
  module _ (switch : Switch) (stands : place_at g.places place ≡ Some switch) (live : Bool) (live_is : live ≡ is_live (switch_state_at state switch))
      (new_ends new_gates : List LiveListData) (first : AddsEnds live place switch ends new_ends) (last : AddsAt true place switch.gate gates new_gates) where
    stands_at : (q : ℕ) → q ≡ place → place_at g.places q ≡ Some switch
    stands_at q same = subst (λ p. place_at g.places p ≡ Some switch) (sym same) stands

    same_switch : (q : ℕ) (one : Switch) → q ≡ place → place_at g.places q ≡ Some one → one ≡ switch
    same_switch q one same there = cc (stands_at q same, there)

    earlier : (q : ℕ) → q < place + 1 → q ≢ place → q < place
    earlier q most other = omega (arith, most, other)

    -- an end of the switch
    joined : (node : ℕ) → (node ≡ switch.a) ⊎ (node ≡ switch.b) → (other : ℕ) × Joins switch node other
    joined node (inl at_a) = (switch.b, inl (sym at_a, refl))
    joined node (inr at_b) = (switch.a, inr (sym at_b, refl))

    end_of : (node other : ℕ) → Joins switch node other → (node ≡ switch.a) ⊎ (node ≡ switch.b)
    end_of node other (inl at_a) = inl (sym at_a.0)
    end_of node other (inr at_b) = inr (sym at_b.0)

    live_next : (node q : ℕ) → Contains (places_of new_ends node) q → (q < place + 1) × ((other : ℕ) × LeadsTo g state q node other)
    live_next node q there = elim ((first.items node q).0 there) [
      | inl before ↦
          let (less, leads) = (below.live node q).0 before in
          (omega (arith, less), leads)
      | inr (end, is, set) ↦
          let (other, joins) = joined node end in
          (omega (arith, is), (other, record { switch = switch; at_place = stands_at q is; joins = joins; live = sym live_is ∙ set }))
    ]

    live_back : (node q : ℕ) → q < place + 1 → (other : ℕ) → LeadsTo g state q node other → Contains (places_of new_ends node) q
    live_back node q most other leads = (first.items node q).1 (elim (cases_eq q place) [
      | inl same ↦
          let is = same_switch q leads.switch same leads.at_place in
          inr (
            end_of node other (subst (λ (s : Switch). Joins s node other) is leads.joins),
            same,
            live_is ∙ subst (λ (s : Switch). is_live (switch_state_at state s) ≡ true) is leads.live,
          )
      | inr differs ↦ inl ((below.live node q).1 (earlier q most differs, (other, leads)))
    ])

    whole_next : (node q : ℕ) → Contains (all_at new_ends node) q → (q < place + 1) × HasEnd g q node
    whole_next node q there = elim ((first.all node q).0 there) [
      | inl before ↦
          let (less, end) = (below.whole node q).0 before in
          (omega (arith, less), end)
      | inr (end, is) ↦
          let (other, joins) = joined node end in
          (omega (arith, is), record { switch = switch; at_place = stands_at q is; other = other; joins = joins })
    ]

    whole_back : (node q : ℕ) → q < place + 1 → HasEnd g q node → Contains (all_at new_ends node) q
    whole_back node q most end = (first.all node q).1 (elim (cases_eq q place) [
      | inl same ↦
          let is = same_switch q end.switch same end.at_place in
          inr (end_of node end.other (subst (λ (s : Switch). Joins s node end.other) is end.joins), same)
      | inr differs ↦ inl ((below.whole node q).1 (earlier q most differs, end))
    ])

    gated_next : (node q : ℕ) → Contains (places_of new_gates node) q → (q < place + 1) × HasGate g q node
    gated_next node q there = elim ((last.items node q).0 there) [
      | inl before ↦
          let (less, gate) = (below.gated node q).0 before in
          (omega (arith, less), gate)
      | inr (gate, is, set) ↦ (omega (arith, is), record { switch = switch; at_place = stands_at q is; gated = sym gate })
    ]

    gated_back : (node q : ℕ) → q < place + 1 → HasGate g q node → Contains (places_of new_gates node) q
    gated_back node q most gate = (last.items node q).1 (elim (cases_eq q place) [
      | inl same ↦
          let is = same_switch q gate.switch same gate.at_place in
          inr (sym gate.gated ∙ ap (λ (s : Switch). s.gate) is, same, refl)
      | inr differs ↦ inl ((below.gated node q).1 (earlier q most differs, gate))
    ])

    pub AreListedBelow-more : AreListedBelow g state (place + 1) new_ends new_gates
    AreListedBelow-more = record {
      counted = first.count ∙ below.counted;
      gates_counted = last.count ∙ below.gates_counted;
      live = λ node q. (live_next node q, λ is. live_back node q is.0 is.1.0 is.1.1);
      whole = λ node q. (whole_next node q, λ is. whole_back node q is.0 is.1);
      gated = λ node q. (gated_next node q, λ is. gated_back node q is.0 is.1);
      all_gated = λ node q there.
          elim ((last.all node q).0 there) [
            | inl before ↦ omega (arith, below.all_gated node q before)
            | inr here ↦ omega (arith, here.1)
          ];
    }

-- no place is listed at first
pub AreListedBelow-start : (g : GraphData) (state : List Tern) (ends gates : List LiveListData) → length ends ≡ nodes g → length gates ≡ nodes g →
    ends ≡ replicate (nodes g) empty_list → gates ≡ replicate (nodes g) empty_list → AreListedBelow g state 0 ends gates
AreListedBelow-start g state ends gates counted gates_counted no_ends no_gates =
    let none : (lists : List LiveListData) → lists ≡ replicate (nodes g) empty_list → (node : ℕ) → list_at lists node ≡ empty_list =
    λ lists are node. ap (λ (xs : List LiveListData). list_at xs node) are ∙ nothing_at (nodes g) node in
    let no_item : (lists : List LiveListData) → lists ≡ replicate (nodes g) empty_list → (node q : ℕ) → ¬ Contains (places_of lists node) q =
    λ lists are node q there. absurd (omega (arith, (subst (λ (list : LiveListData). Contains list.items q) (none lists are node) there).1)) in
    let no_place : (lists : List LiveListData) → lists ≡ replicate (nodes g) empty_list → (node q : ℕ) → ¬ Contains (all_at lists node) q =
    λ lists are node q there. absurd (omega (arith, (subst (λ (list : LiveListData). Contains list.all q) (none lists are node) there).1)) in
    record {
      counted = counted;
      gates_counted = gates_counted;
      live = λ node q. (λ there. absurd (no_item ends no_ends node q there), λ is. absurd (omega (arith, is.0)));
      whole = λ node q. (λ there. absurd (no_place ends no_ends node q there), λ is. absurd (omega (arith, is.0)));
      gated = λ node q. (λ there. absurd (no_item gates no_gates node q there), λ is. absurd (omega (arith, is.0)));
      all_gated = λ node q there. absurd (no_place gates no_gates node q there);
    }

-- all places are listed at last
pub AreListsOf-listed : (g : GraphData) (state : List Tern) (lists : LiveListsData) → AreListedBelow g state (length g.places) lists.ends lists.gates →
    AreListsOf g state lists
AreListsOf-listed g state lists all = record {
  count = all.counted;
  live = λ node q. (
    λ there. ((all.live node q).0 there).1,
    λ leads. (all.live node q).1 (place_inside g.places q leads.1.switch leads.1.at_place, leads),
  );
  whole = λ node q. (
    λ there. ((all.whole node q).0 there).1,
    λ end. (all.whole node q).1 (place_inside g.places q end.switch end.at_place, end),
  );
  gated = λ node q. (
    λ there. ((all.gated node q).0 there).1,
    λ gate. (all.gated node q).1 (place_inside g.places q gate.switch gate.at_place, gate),
  );
}
