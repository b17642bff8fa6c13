-- What a change touches: the ends of the switches that change with it, and with one change after the other.
use Rattle.std.proofs.Common.{◌≡◌, ◌≢◌, ℕ, ◌+◌, ◌<◌, inl, inr, ◌⊎◌, ◌↔◌, Bool, false, List, [], ◌∷◌, ◌++◌, length, take, drop, get_or, Some, refl, sym, ap, ◌∙◌, subst, arith}
use Rattle.std.specs.Prelude.{Contains, slice_set}
use Rattle.std.proofs.lemmas.Bool.{cases_eq}
use Rattle.std.proofs.lemmas.List.{length-set, get_or-set_same, get_or-set_other, take_more, take-append-drop}
use Rattle.std.proofs.lemmas.List.Elements.{Contains-get_or, Contains-push, Contains-push_cases, Contains-append_left}
use Rattle.vicinity.specs.LiveLists.{HasGate}
use Rattle.ternary.specs.declared.tern.Tern.{Tern}
use Rattle.ternary.specs.declared.tern.Tern.TheVariants.{Zero}
use Rattle.ternary.proofs.TernLemmas.{same_or_other}
use Rattle.switch_paths.specs.declared.switching.Switch.{Switch}
use Rattle.switch_paths.specs.declared.switching.SwitchState.{SwitchState}
use Rattle.switch_paths.specs.declared.switching.SwitchState.TheVariants.{Open, Closed, Unknown}
use Rattle.switch_paths.specs.contracts.switching.SwitchStatePartialEq.TheImpl as states
use Rattle.switch_paths.specs.Switching.{state_at, state_by, switch_state_at}
use Rattle.switch_paths.specs.Graphs.{GraphData, place_at}
use Rattle.switch_paths.specs.Path.{Joins}
use Rattle.part_words.specs.declared.change.Change.{Change}
use Rattle.vicinity.specs.NodeSets.{NodeSetData}
use Rattle.vicinity.specs.Flooding.{Wakes}
use Rattle.machine_parts.specs.Running.{AreAgreed, IsTaken}
use Rattle.vicinity.specs.Touching.{SwitchChanges}
use Rattle.vicinity.specs.Stepping.{TurnsAt, Touches}
use Rattle.vicinity.proofs.FloodLemmas.{Wakes-then}
use Rattle.vicinity.proofs.SleepingNodes.{same_tern}

-- what a test of two states of switches tells apart differs
pub apart_states : (a b : SwitchState) → states.eq-value.it a b ≡ false → a ≢ b
apart_states a b test same = let wrong : states.eq-value.it b b ≡ false = subst (λ s. states.eq-value.it s b ≡ false) same test in absurd (itself b wrong)
  where
    itself : (s : SwitchState) → ¬ (states.eq-value.it s s ≡ false)
    itself Open wrong = absurd (cc)
    itself Closed wrong = absurd (cc)
    itself Unknown wrong = absurd (cc)

-- two states of switches are one or differ
pub one_or_apart : (a b : SwitchState) → (a ≡ b) ⊎ (a ≢ b)
one_or_apart Open Open = inl refl
one_or_apart Closed Closed = inl refl
one_or_apart Unknown Unknown = inl refl
one_or_apart Open Closed = inr (λ e. absurd (cc))
one_or_apart Open Unknown = inr (λ e. absurd (cc))
one_or_apart Closed Open = inr (λ e. absurd (cc))
one_or_apart Closed Unknown = inr (λ e. absurd (cc))
one_or_apart Unknown Open = inr (λ e. absurd (cc))
one_or_apart Unknown Closed = inr (λ e. absurd (cc))

-- both ends of a switch that changes
pub Wakes-turns : (g : GraphData) (was now : Tern) (place : ℕ) (switch : Switch) → place_at g.places place ≡ Some switch →
    state_by switch.kind now ≢ state_by switch.kind was → (old mid new : NodeSetData) → Wakes g (λ n. n ≡ switch.a) old mid →
    Wakes g (λ n. n ≡ switch.b) mid new → Wakes g (TurnsAt g was now place) old new
Wakes-turns g was now place switch stands differs old mid new first next =
    Wakes-then g (λ n. n ≡ switch.a) (λ n. n ≡ switch.b) (TurnsAt g was now place) old mid new first next
    (λ node turns.
    let same : turns.switch ≡ switch = cc (turns.at_place, stands) in
    let joins : Joins switch node turns.other = subst (λ (s : Switch). Joins s node turns.other) same turns.joins in
    elim joins [ inl ends ↦ inl (sym ends.0) | inr ends ↦ inr (sym ends.0) ])
    (λ node is. record { switch = switch; at_place = stands; other = switch.b; joins = inl (sym is, refl); changed = differs })
    (λ node is. record { switch = switch; at_place = stands; other = switch.a; joins = inr (sym is, refl); changed = differs })

-- one place more
pub Wakes-each : (g : GraphData) (Leads : ℕ → ℕ → Type 0) (places : List ℕ) (i : ℕ) → i < length places → (old mid new : NodeSetData) →
    Wakes g (λ other. (place : ℕ) × Contains (take i places) place × Leads place other) old mid → Wakes g (Leads (get_or places i 0)) mid new →
    Wakes g (λ other. (place : ℕ) × Contains (take (i + 1) places) place × Leads place other) old new
Wakes-each g Leads places i inside old mid new first next =
    let more = take_more places i 0 inside in
    let last : Contains (take (i + 1) places) (get_or places i 0) = rw more (Contains-push (take i places) (get_or places i 0)) in
    Wakes-then g (λ other. (place : ℕ) × Contains (take i places) place × Leads place other) (Leads (get_or places i 0))
    (λ other. (place : ℕ) × Contains (take (i + 1) places) place × Leads place other) old mid new first next
    (λ other any. elim (Contains-push_cases (take i places) (get_or places i 0) any.0 (rw more at any.1)) [
      | inl before ↦ inl (any.0, before, any.2)
      | inr same ↦ inr (subst (λ p. Leads p other) (sym same) any.2)
    ])
    (λ other this. (this.0, rw more (Contains-append_left (take i places) (get_or places i 0 ∷ []) this.0 this.1), this.2))
    (λ other that. (get_or places i 0, last, that))

-- one change touches what it stirs
pub Touches-one : (g : GraphData) (old : List Tern) (node : ℕ) (was value : Tern) (places : List ℕ) (before after : NodeSetData) →
    ((place : ℕ) → Contains places place ↔ HasGate g place node) → node < length old → was ≡ state_at old node →
    Wakes g (λ n. (place : ℕ) × Contains places place × TurnsAt g was value place n) before after →
    Touches g old (slice_set old node value) before.inside after.inside
Touches-one g old node was value places before after gated inside is wakes = record {
  count = wakes.count;
  stays = wakes.stays;
  all = λ n storage changes.
      let switch = changes.switch in
      elim (cases_eq switch.gate node) [
        | inl same ↦
            let now : state_at (slice_set old node value) switch.gate ≡ value =
            ap (state_at (slice_set old node value)) same ∙ get_or-set_same old node value Zero inside in
            let then_ : state_at old switch.gate ≡ was = ap (state_at old) same ∙ sym is in
            wakes.all n (
              changes.place,
              (gated changes.place).1 (record { switch = switch; at_place = changes.at_place; gated = same }),
              record {
                switch = switch;
                at_place = changes.at_place;
                other = changes.other;
                joins = changes.joins;
                changed = λ e. changes.changed (ap (state_by switch.kind) now ∙ (e ∙ ap (state_by switch.kind) (sym then_)));
              },
            ) storage
        | inr other ↦
            absurd (changes.changed (ap (state_by switch.kind) (get_or-set_other old node switch.gate value Zero other)))
      ];
  only = λ n touched.
      elim (wakes.only n touched) [
        | inl before ↦ inl before
        | inr ((place, there, turns), storage) ↦
            let gate = (gated place).0 there in
            let switch = turns.switch in
            let one : switch ≡ gate.switch = cc (turns.at_place, gate.at_place) in
            let same : switch.gate ≡ node = ap (λ (s : Switch). s.gate) one ∙ gate.gated in
            let now : state_at (slice_set old node value) switch.gate ≡ value =
            ap (state_at (slice_set old node value)) same ∙ get_or-set_same old node value Zero inside in
            let then_ : state_at old switch.gate ≡ was = ap (state_at old) same ∙ sym is in
            inr (
              storage,
              record {
                place = place;
                switch = switch;
                at_place = turns.at_place;
                other = turns.other;
                joins = turns.joins;
                changed = λ e. turns.changed (ap (state_by switch.kind) (sym now) ∙ (e ∙ ap (state_by switch.kind) then_));
              },
            )
      ];
}

-- no state changes twice: a node that changed first keeps the state that it got
abbrev pub NoneTwice : List Tern → List Tern → List Tern → Type 0
NoneTwice old mid new = (node : ℕ) → (state_at mid node ≡ state_at old node) ⊎ (state_at new node ≡ state_at mid node)

-- a switch that changes between two states changes between two others, if it has other states in these
changes_between : (g : GraphData) (one two old new : List Tern) (node : ℕ) (changes : SwitchChanges g one two node) →
    switch_state_at new changes.switch ≢ switch_state_at old changes.switch → SwitchChanges g old new node
changes_between g one two old new node changes differs =
    record { place = changes.place; switch = changes.switch; at_place = changes.at_place; other = changes.other; joins = changes.joins; changed = differs }

-- what two changes stir, one of them does, and what one of them stirs, both do together if none changes twice
pub Touches-then : (g : GraphData) (old mid new : List Tern) (before between after : List Bool) → NoneTwice old mid new →
    Touches g old mid before between → Touches g mid new between after → Touches g old new before after
Touches-then g old mid new before between after once first next = record {
  count = next.count ∙ first.count;
  stays = λ node is. next.stays node (first.stays node is);
  all = λ node storage changes.
      let switch = changes.switch in
      elim (one_or_apart (switch_state_at mid switch) (switch_state_at old switch)) [
        | inl same ↦ next.all node storage (changes_between g old new mid new node changes (λ e. changes.changed (e ∙ same)))
        | inr differs ↦ next.stays node (first.all node storage (changes_between g old new old mid node changes differs))
      ];
  only = λ node touched.
      elim (next.only node touched) [
        | inl between ↦ elim (first.only node between) [ inl before ↦ inl before | inr (storage, changes) ↦ inr (storage, at_first node changes) ]
        | inr (storage, changes) ↦ inr (storage, behind node changes)
      ];
}
  where
    at_first : (node : ℕ) → SwitchChanges g old mid node → SwitchChanges g old new node
    at_first node changes = changes_between g old mid old new node changes (elim (once changes.switch.gate) [
      | inl same ↦ absurd (changes.changed (ap (state_by changes.switch.kind) same))
      | inr same ↦ λ e. changes.changed (ap (state_by changes.switch.kind) (sym same) ∙ e)
    ])

    behind : (node : ℕ) → SwitchChanges g mid new node → SwitchChanges g old new node
    behind node changes = changes_between g mid new old new node changes (elim (once changes.switch.gate) [
      | inl same ↦ λ e. changes.changed (e ∙ ap (state_by changes.switch.kind) (sym same))
      | inr same ↦ absurd (changes.changed (ap (state_by changes.switch.kind) same))
    ])

-- nothing changes, nothing is touched
pub Touches-none : (g : GraphData) (state : List Tern) (touched : List Bool) → Touches g state state touched touched
Touches-none g state touched = record {
  count = refl;
  stays = λ node is. is;
  all = λ node storage changes. absurd (changes.changed refl);
  only = λ node touched. inl touched;
}

-- what a prefix of a list contains, the list contains
pub Contains-front : {X : Type 0} (xs : List X) (i : ℕ) (x : X) → Contains (take i xs) x → Contains xs x
Contains-front xs i x there = subst (λ ys. Contains ys x) (take-append-drop i xs) (Contains-append_left (take i xs) (drop i xs) x there)

-- one change more is written
pub IsTaken-more : (changes : List Change) (i : ℕ) (d : Change) (old mid : List Tern) → i < length changes → (get_or changes i d).node < length old →
    ((one two : Change) → Contains changes one → Contains changes two → one.node ≡ two.node → one.value ≡ two.value) →
    IsTaken (take i changes) old mid →
    IsTaken (take (i + 1) changes) old (slice_set mid (get_or changes i d).node (get_or changes i d).value)
IsTaken-more changes i d old mid inside node_inside agreed so_far =
    let change : Change = get_or changes i d in
    let longer : take (i + 1) changes ≡ take i changes ++ change ∷ [] = take_more changes i d inside in
    let here : Contains changes change = Contains-get_or changes i d inside in
    let in_mid : change.node < length mid = omega (arith, so_far.count, node_inside) in
    rw longer (record {
      count = length-set mid change.node change.value ∙ so_far.count;
      taken = λ one there.
          elim (cases_eq one.node change.node) [
            | inl same ↦
                let value : one.value ≡ change.value =
                elim (Contains-push_cases (take i changes) change one there) [
                  | inl before ↦ agreed one change (Contains-front changes i one before) here same
                  | inr equal ↦ ap (λ (c : Change). c.value) (sym equal)
                ] in
                ap (state_at (slice_set mid change.node change.value)) same ∙ (get_or-set_same mid change.node change.value Zero in_mid ∙ sym value)
            | inr other ↦
                get_or-set_other mid change.node one.node change.value Zero other ∙ elim (Contains-push_cases (take i changes) change one there) [
                  | inl before ↦ so_far.taken one before
                  | inr equal ↦ absurd (other (ap (λ (c : Change). c.node) (sym equal)))
                ]
          ];
      stays = λ node none.
          let other : node ≢ change.node = λ e. none change (Contains-push (take i changes) change) (sym e) in
          get_or-set_other mid change.node node change.value Zero other
          ∙ so_far.stays node (λ one before. none one (Contains-append_left (take i changes) (change ∷ []) one before));
    })

-- one change is written
IsTaken-one : (old : List Tern) (change : Change) → change.node < length old → IsTaken (change ∷ []) old (slice_set old change.node change.value)
IsTaken-one old change inside = record {
  count = length-set old change.node change.value;
  taken = λ one there.
      let same : change ≡ one = alone one there in
      subst (λ (c : Change). state_at (slice_set old change.node change.value) c.node ≡ c.value) same
      (get_or-set_same old change.node change.value Zero inside);
  stays = λ node none. get_or-set_other old change.node node change.value Zero (λ same. none change (Contains-push [] change) (sym same));
}
  where
    alone : (one : Change) → Contains (change ∷ []) one → change ≡ one
    alone one there = elim (Contains-push_cases [] change one there) [ inl before ↦ absurd (omega (arith, before.1)) | inr same ↦ same ]

-- changes that agree change no state twice, some of them first and more behind them
pub none_twice : (first more : List Change) (old mid new : List Tern) →
    ((one two : Change) → Contains first one → Contains more two → one.node ≡ two.node → one.value ≡ two.value) →
    IsTaken first old mid → IsTaken more mid new → NoneTwice old mid new
none_twice first more old mid new agreed before behind node =
    elim (same_or_other (state_at mid node) (state_at old node)) [
      | inl same ↦ inl same
      | inr changed ↦ inr (same_tern (state_at new node) (state_at mid node) (λ differs.
          differs (behind.stays node (λ two there at_two.
          changed (before.stays node (λ one here at_one.
          let value : one.value ≡ two.value = agreed one two here there (at_one ∙ sym at_two) in
          differs (ap (state_at new) (sym at_two) ∙ (behind.taken two there ∙ (sym value ∙ (sym (before.taken one here) ∙ ap (state_at mid) at_one))))))))))
    ]

-- nor does the next one
pub none_twice-next : (changes : List Change) (i : ℕ) (d : Change) (old mid : List Tern) → i < length changes → (get_or changes i d).node < length mid →
    AreAgreed changes → IsTaken (take i changes) old mid →
    NoneTwice old mid (slice_set mid (get_or changes i d).node (get_or changes i d).value)
none_twice-next changes i d old mid inside node_inside agreed so_far =
    let change : Change = get_or changes i d in
    none_twice (take i changes) (change ∷ []) old mid (slice_set mid change.node change.value)
    (λ one two here there. agreed one two (Contains-front changes i one here) (among two there)) so_far (IsTaken-one mid change node_inside)
  where
    among : (two : Change) → Contains (get_or changes i d ∷ []) two → Contains changes two
    among two there =
        elim (Contains-push_cases [] (get_or changes i d) two there) [
          | inl before ↦ absurd (omega (arith, before.1))
          | inr same ↦ subst (Contains changes) same (Contains-get_or changes i d inside)
        ]
