-- The lists of a graph turn with a gate: first at both ends of one switch, then at all places that the gate has; so they are those of the state
-- in which the gate changed.
use Rattle.std.proofs.Common.{◌≡◌, ◌≢◌, ℕ, ◌+◌, ◌<◌, inl, inr, ◌⊎◌, get_or, Some, Bool, true, false, List, [], ◌∷◌, length, take, ap, refl, sym, subst, ◌∙◌, arith}
use Rattle.std.specs.Prelude.{Contains, slice_set}
use Rattle.std.proofs.lemmas.Bool.{cases_eq, cases_Bool}
use Rattle.std.proofs.lemmas.List.{get_or-set_same, get_or-set_other, take_more}
use Rattle.std.proofs.lemmas.List.Elements.{Contains-push_cases}
use Rattle.ternary.specs.declared.tern.Tern.{Tern}
use Rattle.ternary.specs.declared.tern.Tern.TheVariants.{Zero}
use Rattle.switch_paths.specs.declared.switching.Switch.{Switch}
use Rattle.switch_paths.specs.Switching.{is_live, state_by, state_at}
use Rattle.switch_paths.specs.Graphs.{GraphData, place_at}
use Rattle.switch_paths.specs.Path.{Joins}
use Rattle.vicinity.specs.Lists.{LiveListData, LiveListsData, places_of, all_at}
use Rattle.vicinity.specs.Arms.{LeadsTo}
use Rattle.vicinity.specs.LiveLists.{HasEnd, AreListsOf, TurnsAtNode, IsLiveBy, ComesLive, TurnsGate}

-- nothing turns if the node isn't the switch's gate, or no switch stands there, or it stays open or not
pub TurnsGate-none : (g : GraphData) (gate : ℕ) (was now : Tern) (place : ℕ) (lists : List LiveListData) →
    ((switch : Switch) → place_at g.places place ≡ Some switch → switch.gate ≡ gate → is_live (state_by switch.kind now) ≡ is_live (state_by switch.kind was)) →
    TurnsGate g gate was now (λ q. q ≡ place) lists lists
TurnsGate-none g gate was now place lists still = record {
  count = refl;
  all = λ n q. (λ there. there, λ there. there);
  kept = λ n q live there. there;
  only = λ n q there. inl there;
  front = λ q n other switch is stands gated joins set unset there.
      let same = still switch (subst (λ p. place_at g.places p ≡ Some switch) is stands) gated in
      absurd (cc (set, unset, same));
  behind = λ q n other switch is stands gated joins unset set there.
      let same = still switch (subst (λ p. place_at g.places p ≡ Some switch) is stands) gated in
      absurd (cc (set, unset, same));
}

-- both ends of a switch that turns
module _ (g : GraphData) (gate : ℕ) (was now : Tern) (place : ℕ) (switch : Switch) (stands : place_at g.places place ≡ Some switch)
    (gated : switch.gate ≡ gate) (live : Bool) (live_is : live ≡ is_live (state_by switch.kind now)) (old mid new : List LiveListData)
    (first : TurnsAtNode live place switch.a old mid) (next : TurnsAtNode live place switch.b mid new) where
  -- what stands at the place is this switch
  same_switch : (q : ℕ) (one : Switch) → q ≡ place → place_at g.places q ≡ Some one → one ≡ switch
  same_switch q one is there = cc (subst (λ p. place_at g.places p ≡ Some one) is there, stands)

  stays : (q : ℕ) → IsLiveBy g gate now q → (q ≢ place) ⊎ (live ≡ true)
  stays q by = elim (cases_eq q place) [
    | inl same ↦ inr (live_is ∙ by switch (subst (λ p. place_at g.places p ≡ Some switch) (sym same) stands) gated)
    | inr other ↦ inl other
  ]

  comes : (q n other : ℕ) → q ≡ place → live ≡ true → Joins switch n other → ComesLive g gate now q n
  comes q n other is set joins = record {
    switch = switch;
    at_place = subst (λ p. place_at g.places p ≡ Some switch) (sym is) stands;
    gated = gated;
    other = other;
    joins = joins;
    live = sym live_is ∙ set;
  }

  came : (n q : ℕ) → Contains (places_of new n) q → Contains (places_of old n) q ⊎ ComesLive g gate now q n
  came n q there = elim (next.only n q there) [
    | inl between ↦
        elim (first.only n q between) [
          | inl before ↦ inl before
          | inr (at_a, is, set) ↦ inr (comes q n switch.b is set (inl (sym at_a, refl)))
        ]
    | inr (at_b, is, set) ↦ inr (comes q n switch.a is set (inr (sym at_b, refl)))
  ]

  to_front : (n other : ℕ) → Joins switch n other → live ≡ true → Contains (all_at old n) place → Contains (places_of new n) place
  to_front n other ends set here = elim ends [
    | inl at_a ↦
        next.kept n place (inr set)
        (subst (λ m. Contains (places_of mid m) place) at_a.0 (first.front set (subst (λ m. Contains (all_at old m) place) (sym at_a.0) here)))
    | inr at_b ↦
        subst (λ m. Contains (places_of new m) place) at_b.0
        (next.front set ((first.all switch.b place).1 (subst (λ m. Contains (all_at old m) place) (sym at_b.0) here)))
  ]

  leaves : (n other : ℕ) → Joins switch n other → live ≡ false → ¬ Contains (places_of new n) place
  leaves n other ends unset there = elim ends [
    | inl at_a ↦
        elim (next.only n place there) [
          | inl between ↦ first.behind unset (subst (λ m. Contains (places_of mid m) place) (sym at_a.0) between)
          | inr (at_b, is, set) ↦ absurd (cc (unset, set))
        ]
    | inr at_b ↦ next.behind unset (subst (λ m. Contains (places_of new m) place) (sym at_b.0) there)
  ]

  pub TurnsGate-both : TurnsGate g gate was now (λ q. q ≡ place) old new
  TurnsGate-both = record {
    count = next.count ∙ first.count;
    all = λ n q. (λ there. (first.all n q).0 ((next.all n q).0 there), λ there. (next.all n q).1 ((first.all n q).1 there));
    kept = λ n q by there. next.kept n q (stays q by) (first.kept n q (stays q by) there);
    only = came;
    front = λ q n other one is there gates joins set unset listed.
        let same = same_switch q one is there in
        let now_live : live ≡ true = live_is ∙ subst (λ (s : Switch). is_live (state_by s.kind now) ≡ true) same set in
        subst (Contains (places_of new n)) (sym is)
        (to_front n other (subst (λ (s : Switch). Joins s n other) same joins) now_live (subst (Contains (all_at old n)) is listed));
    behind = λ q n other one is there gates joins unset set still.
        let same = same_switch q one is there in
        let now_open : live ≡ false = live_is ∙ subst (λ (s : Switch). is_live (state_by s.kind now) ≡ false) same unset in
        leaves n other (subst (λ (s : Switch). Joins s n other) same joins) now_open (subst (Contains (places_of new n)) is still);
  }

-- no place, and one place more
pub TurnsGate-start : (g : GraphData) (gate : ℕ) (was now : Tern) (lists : List LiveListData) → TurnsGate g gate was now (Contains []) lists lists
TurnsGate-start g gate was now lists = record {
  count = refl;
  all = λ n q. (λ there. there, λ there. there);
  kept = λ n q live there. there;
  only = λ n q there. inl there;
  front = λ q n other switch is stands gated joins set unset there. absurd (omega (arith, is.1));
  behind = λ q n other switch is stands gated joins unset set there. absurd (omega (arith, is.1));
}

pub TurnsGate-more : (g : GraphData) (gate : ℕ) (was now : Tern) (places : List ℕ) (i : ℕ) → i < length places → (old mid new : List LiveListData) →
    TurnsGate g gate was now (Contains (take i places)) old mid → TurnsGate g gate was now (λ q. q ≡ get_or places i 0) mid new →
    TurnsGate g gate was now (Contains (take (i + 1) places)) old new
TurnsGate-more g gate was now places i inside old mid new first next =
    let which : (q : ℕ) → Contains (take (i + 1) places) q → Contains (take i places) q ⊎ (get_or places i 0 ≡ q) =
    λ q is. Contains-push_cases (take i places) (get_or places i 0) q (subst (λ xs. Contains xs q) (take_more places i 0 inside) is) in
    record {
      count = next.count ∙ first.count;
      all = λ n q. (λ there. (first.all n q).0 ((next.all n q).0 there), λ there. (next.all n q).1 ((first.all n q).1 there));
      kept = λ n q live there. next.kept n q live (first.kept n q live there);
      only = λ n q there.
          elim (next.only n q there) [
            | inl between ↦ first.only n q between
            | inr comes ↦ inr comes
          ];
      front = λ q n other switch is stands gated joins set unset there.
          elim (which q is) [
            | inl before ↦
                let live : IsLiveBy g gate now q = λ one at here.
                let same : one ≡ switch = cc (at, stands) in
                subst (λ (s : Switch). is_live (state_by s.kind now) ≡ true) (sym same) set in
                next.kept n q live (first.front q n other switch before stands gated joins set unset there)
            | inr last ↦ next.front q n other switch (sym last) stands gated joins set unset ((first.all n q).1 there)
          ];
      behind = λ q n other switch is stands gated joins unset set there.
          elim (which q is) [
            | inl before ↦
                elim (next.only n q there) [
                  | inl between ↦ first.behind q n other switch before stands gated joins unset set between
                  | inr comes ↦
                      let same : comes.switch ≡ switch = cc (comes.at_place, stands) in
                      let live : is_live (state_by switch.kind now) ≡ true =
                      subst (λ (s : Switch). is_live (state_by s.kind now) ≡ true) same comes.live in
                      absurd (cc (live, unset))
                ]
            | inr last ↦ next.behind q n other switch (sym last) stands gated joins unset set there
          ];
    }

-- after its switches turned, the lists are those of the state in which the gate changed
module _ (g : GraphData) (gate : ℕ) (now : Tern) (state : List Tern) (old : LiveListsData) (new : List LiveListData) (inside : gate < length state)
    (lists : AreListsOf g state old) (turns : TurnsGate g gate (state_at state gate) now (Contains (places_of old.gates gate)) old.ends new) where
  abbrev next : List Tern
  next = slice_set state gate now

  -- the state of the gate, and of any other node
  at_gate : (node : ℕ) → node ≡ gate → state_at next node ≡ now
  at_gate node same = ap (state_at next) same ∙ get_or-set_same state gate now Zero inside

  elsewhere : (node : ℕ) → node ≢ gate → state_at next node ≡ state_at state node
  elsewhere node other = get_or-set_other state gate node now Zero other

  -- a switch of this gate is listed there
  listed : (place : ℕ) (switch : Switch) → place_at g.places place ≡ Some switch → switch.gate ≡ gate → Contains (places_of old.gates gate) place
  listed place switch stands gated = (lists.gated gate place).1 (record { switch = switch; at_place = stands; gated = gated })

  -- what leads on, by the state that its switch's gate has
  leads_by : (before after : List Tern) (place node other : ℕ) (leads : LeadsTo g before place node other) →
      is_live (state_by leads.switch.kind (state_at after leads.switch.gate)) ≡ true → LeadsTo g after place node other
  leads_by before after place node other leads live = record { switch = leads.switch; at_place = leads.at_place; joins = leads.joins; live = live }

  leads_still : (place node other : ℕ) (leads : LeadsTo g state place node other) → leads.switch.gate ≢ gate → LeadsTo g next place node other
  leads_still place node other leads differs =
      leads_by state next place node other leads
      (subst (λ t. is_live (state_by leads.switch.kind t) ≡ true) (sym (elsewhere leads.switch.gate differs)) leads.live)

  live_after : (node place : ℕ) → Contains (places_of new node) place → (other : ℕ) × LeadsTo g next place node other
  live_after node place there = elim (turns.only node place there) [
    | inr comes ↦ (
      comes.other,
      record {
        switch = comes.switch;
        at_place = comes.at_place;
        joins = comes.joins;
        live = subst (λ t. is_live (state_by comes.switch.kind t) ≡ true) (sym (at_gate comes.switch.gate comes.gated)) comes.live;
      },
    )
    | inl before ↦
        let (other, leads) = (lists.live node place).0 before in
        elim (cases_eq leads.switch.gate gate) [
          | inr differs ↦ (other, leads_still place node other leads differs)
          | inl same ↦
              elim (cases_Bool (is_live (state_by leads.switch.kind now))) [
                | inl set ↦ (
                  other,
                  leads_by state next place node other leads
                      (subst (λ t. is_live (state_by leads.switch.kind t) ≡ true) (sym (at_gate leads.switch.gate same)) set),
                )
                | inr unset ↦
                    let was : is_live (state_by leads.switch.kind (state_at state gate)) ≡ true =
                    subst (λ n. is_live (state_by leads.switch.kind (state_at state n)) ≡ true) same leads.live in
                    absurd (turns.behind place node other leads.switch (listed place leads.switch leads.at_place same) leads.at_place same leads.joins unset
                    was there)
              ]
        ]
  ]

  live_all : (node place other : ℕ) → LeadsTo g next place node other → Contains (places_of new node) place
  live_all node place other leads = elim (cases_eq leads.switch.gate gate) [
    | inl same ↦
        let set : is_live (state_by leads.switch.kind now) ≡ true =
        subst (λ t. is_live (state_by leads.switch.kind t) ≡ true) (at_gate leads.switch.gate same) leads.live in
        elim (cases_Bool (is_live (state_by leads.switch.kind (state_at state gate)))) [
          | inl was ↦
              let before : LeadsTo g state place node other =
              leads_by next state place node other leads
              (subst (λ n. is_live (state_by leads.switch.kind (state_at state n)) ≡ true) (sym same) was) in
              turns.kept node place (λ one at here.
              let one_is : one ≡ leads.switch = cc (at, leads.at_place) in
              subst (λ (s : Switch). is_live (state_by s.kind now) ≡ true) (sym one_is) set) ((lists.live node place).1 (other, before))
          | inr unset ↦
              let end : HasEnd g place node = record { switch = leads.switch; at_place = leads.at_place; other = other; joins = leads.joins } in
              turns.front place node other leads.switch (listed place leads.switch leads.at_place same) leads.at_place same leads.joins set unset
              ((lists.whole node place).1 end)
        ]
    | inr differs ↦
        let before : LeadsTo g state place node other =
        leads_by next state place node other leads
        (subst (λ t. is_live (state_by leads.switch.kind t) ≡ true) (elsewhere leads.switch.gate differs) leads.live) in
        turns.kept node place (λ one at here.
        let one_is : one ≡ leads.switch = cc (at, leads.at_place) in
        absurd (differs (ap (λ (s : Switch). s.gate) (sym one_is) ∙ here))) ((lists.live node place).1 (other, before))
  ]

  pub AreListsOf-turned : AreListsOf g next (record { ends = new; gates = old.gates })
  AreListsOf-turned = record {
    count = turns.count ∙ lists.count;
    live = λ node place. (live_after node place, λ leads. live_all node place leads.0 leads.1);
    whole = λ node place. (
      λ there. (lists.whole node place).0 ((turns.all node place).0 there),
      λ end. (turns.all node place).1 ((lists.whole node place).1 end),
    );
    gated = lists.gated;
  }

-- a state of a node that is no gate turns nothing
pub AreListsOf-ungated : (g : GraphData) (gate : ℕ) (now : Tern) (state : List Tern) (lists : LiveListsData) → gate < length state → AreListsOf g state lists →
    length (places_of lists.gates gate) ≡ 0 → AreListsOf g (slice_set state gate now) lists
AreListsOf-ungated g gate now state lists inside are none =
    AreListsOf-turned g gate now state lists lists.ends inside are (idle (places_of lists.gates gate) none)
  where
    idle : (places : List ℕ) → length places ≡ 0 → TurnsGate g gate (state_at state gate) now (Contains places) lists.ends lists.ends
    idle [] none = TurnsGate-start g gate (state_at state gate) now lists.ends
    idle (place ∷ places) none = absurd (omega (arith, none))
