-- Nodes that are placed in both runs, one after the other.
use Rattle.std.proofs.Common.{◌≡◌, ◌≢◌, ℕ, ◌+◌, ◌<◌, ◌≤◌, inl, inr, ◌⊎◌, Bool, List, [], ◌∷◌, ◌++◌, length, take, drop, get_or, refl, sym, ap, subst, ◌∙◌, arith}
use Rattle.std.specs.Prelude.{Contains, slice_index, slice_set}
use Rattle.std.proofs.lemmas.Bool.{cases_eq, cases_lt}
use Rattle.std.proofs.lemmas.List.{ext_get_or, get_or_default, get_or-set_other, get_or-set_same, length-set, set-get_or, take_more, take-append-drop}
use Rattle.std.proofs.lemmas.List.Elements.{Contains-append_left, Contains-push, Contains-push_cases}
use Rattle.ternary.specs.declared.tern.Tern.{Tern}
use Rattle.ternary.specs.declared.tern.Tern.TheVariants.{Zero}
use Rattle.switch_paths.specs.declared.TheConstants.{RAILS}
use Rattle.switch_paths.specs.Graphs.{GraphData}
use Rattle.switch_paths.specs.Rails.{IsSound}
use Rattle.switch_paths.specs.Switching.{state_at}
use Rattle.part_words.specs.declared.change.Change.{Change}
use Rattle.machine_parts.specs.Running.{AreAgreed, IsTaken}
use Rattle.part_steps.proofs.TakingLemmas.{change_of}
use Rattle.machine_laws.specs.Machines.{MachineData}
use Rattle.beside.specs.Fitting.{FitsBeside}
use Rattle.beside_phases.proofs.CountingLemmas.{build_on, held_on}
use Rattle.beside_run.specs.Running.{LagsAt, PlacesSome, StaysOrComes}

-- ---- placed

-- none was placed
pub placed_none : (g h : GraphData) (m : MachineData) (good : List Tern) (apart : List Bool) → FitsBeside g h good apart m → PlacesSome g h m m good apart
placed_none g h m good apart fits = record {
  fits = fits;
  build = record { groups = refl; last = refl; spare = refl };
  held = record { parts = refl; uses = refl; texts = refl };
}

-- some and then others
pub placed_then : (g h : GraphData) (old mid new : MachineData) (good good_new : List Tern) (apart apart_new : List Bool) → PlacesSome g h old mid good apart →
    PlacesSome g h mid new good_new apart_new → PlacesSome g h old new good_new apart_new
placed_then g h old mid new good good_new apart apart_new one two =
    record { fits = two.fits; build = build_on old mid new one.build two.build; held = held_on old mid new one.held two.held }

-- ---- the state that is meant

-- a node gets the state that is meant
pub comes_set : (state old new : List Tern) (node : ℕ) → node < length old → new ≡ slice_set old node (state_at state node) → StaysOrComes state old new
comes_set state old new node inside is n =
    elim (cases_eq n node) [
      | inl same ↦
          inr (ap (λ states. state_at states n) is ∙ subst (λ k. state_at (slice_set old node (state_at state node)) k ≡ state_at state k) (sym same)
          (get_or-set_same old node (state_at state node) Zero inside))
      | inr other ↦ inl (ap (λ states. state_at states n) is ∙ get_or-set_other old node n (state_at state node) Zero other)
    ]

-- some and then others
pub comes_then : (state old mid new : List Tern) → StaysOrComes state old mid → StaysOrComes state mid new → StaysOrComes state old new
comes_then state old mid new one two node =
    elim (two node) [
      | inl same ↦ elim (one node) [ inl was ↦ inl (same ∙ was) | inr is ↦ inr (same ∙ is) ]
      | inr is ↦ inr is
    ]

-- ---- changes

-- no change
pub taken_start : (changes : List Change) (state : List Tern) → IsTaken (take 0 changes) state state
taken_start changes state = record { count = refl; taken = λ change there. absurd (omega (arith, there.1)); stays = λ node none. refl }

-- what is at the front of a list is in it
pub contained_in_take : {X : Type 0} (xs : List X) (i : ℕ) (x : X) → Contains (take i xs) x → Contains xs x
contained_in_take xs i x found = subst (λ list. Contains list x) (take-append-drop i xs) (Contains-append_left (take i xs) (drop i xs) x found)

-- one change more, that agrees with those before it
pub taken_more : (changes : List Change) (i : ℕ) (change first : Change) (old mid new : List Tern) → i < length changes → change ≡ get_or changes i first →
    Contains changes change → change.node < length mid → AreAgreed changes → IsTaken (take i changes) old mid →
    new ≡ slice_set mid change.node change.value → IsTaken (take (i + 1) changes) old new
taken_more changes i change first old mid new inside is there within agreed so_far new_is = record {
  count = ap length new_is ∙ (length-set mid change.node change.value ∙ so_far.count);
  taken = λ other found.
      elim (cases_eq other.node change.node) [
        | inl same ↦ here other same (agreed other change (in_all other found) there same)
        | inr apart ↦ elim (Contains-push_cases (take i changes) change other (subst (λ xs. Contains xs other) more found)) [
          | inl before ↦ others other.node apart ∙ so_far.taken other before
          | inr this ↦ absurd (apart (ap (λ (c : Change). c.node) (sym this)))
        ]
      ];
  stays = λ node none.
      let apart : node ≢ change.node = λ same. none change (subst (λ xs. Contains xs change) (sym more) (Contains-push (take i changes) change)) (sym same) in
      others node apart ∙ so_far.stays node (λ other found. none other (subst (λ xs. Contains xs other) (sym more)
      (Contains-append_left (take i changes) (change ∷ []) other found)));
}
  where
    more : take (i + 1) changes ≡ take i changes ++ change ∷ []
    more = take_more changes i first inside ∙ ap (λ (x : Change). take i changes ++ x ∷ []) (sym is)

    others : (node : ℕ) → node ≢ change.node → state_at new node ≡ state_at mid node
    others node apart = ap (λ states. state_at states node) new_is ∙ get_or-set_other mid change.node node change.value Zero apart

    here : (other : Change) → other.node ≡ change.node → other.value ≡ change.value → state_at new other.node ≡ other.value
    here other same value =
        subst (λ n. state_at new n ≡ other.value) (sym same)
        (ap (λ states. state_at states change.node) new_is ∙ (get_or-set_same mid change.node change.value Zero within ∙ sym value))

    in_all : (other : Change) → Contains (take (i + 1) changes) other → Contains changes other
    in_all other found = contained_in_take changes (i + 1) other found

-- the rails' states in two sound states
pub rails_same : (one two : List Tern) → IsSound one → IsSound two → (node : ℕ) → node < RAILS → state_at one node ≡ state_at two node
rails_same one two sound sound_too node rail =
    elim (cases_eq node 0) [
      | inl gnd ↦ subst (λ n. state_at one n ≡ state_at two n) (sym gnd) (sound.gnd ∙ sym sound_too.gnd)
      | inr other ↦
          let vdd : node ≡ 1 = omega (arith, rail, other) in
          subst (λ n. state_at one n ≡ state_at two n) (sym vdd) (sound.vdd ∙ sym sound_too.vdd)
    ]

-- a node of which some changes were taken, each to the state that it had, has it still
pub rail_stays : (changes : List Change) (i : ℕ) (old now : List Tern) (change : Change) → Contains changes change → AreAgreed changes → IsTaken (take i changes) old now →
    state_at old change.node ≡ change.value → state_at now change.node ≡ change.value
rail_stays changes i old now change there agreed so_far was =
    elim (change_of (take i changes) change.node) [
      | inl (other, found, same) ↦
          subst (λ n. state_at now n ≡ change.value) same
          (so_far.taken other found ∙ agreed other change (contained_in_take changes i other found) there same)
      | inr none ↦ so_far.stays change.node none ∙ was
    ]

-- ---- nodes that were given states

-- of the nodes none but those from this place of the list on has another state than the one that is meant
abbrev pub LagsFrom : ℕ → List ℕ → List Tern → List Tern → Type 0
LagsFrom i list state now =
    (node : ℕ) → (state_at now node ≡ state_at state node) ⊎ ((j : ℕ) × (i ≤ j) × (j < length list) × (slice_index list j ≡ node))

-- at first
pub lags_start : (list : List ℕ) (state now : List Tern) → LagsAt list state now → LagsFrom 0 list state now
lags_start list state now lags node =
    elim (lags node) [ inl same ↦ inl same | inr (k, inside, here) ↦ inr (k, omega arith, inside, get_or_default list k 0 node inside ∙ here) ]

-- one node more is placed
pub lags_more : (i : ℕ) (list : List ℕ) (state old new : List Tern) (node : ℕ) → node ≡ slice_index list i → node < length old →
    new ≡ slice_set old node (state_at state node) → LagsFrom i list state old → LagsFrom (i + 1) list state new
lags_more i list state old new node is inside new_is lags n =
    elim (comes_set state old new node inside new_is n) [
      | inr comes ↦ inl comes
      | inl stays ↦ elim (lags n) [
        | inl same ↦ inl (stays ∙ same)
        | inr (j, low, below, here) ↦
            elim (cases_lt i j) [
              | inl later ↦ inr (j, omega (arith, later), below, here)
              | inr most ↦
                  let at : j ≡ i = omega (arith, low, most) in
                  let same : n ≡ node = sym here ∙ (ap (slice_index list) at ∙ sym is) in
                  inl (ap (λ states. state_at states n) new_is ∙ subst (λ k. state_at (slice_set old node (state_at state node)) k ≡ state_at state k) (sym same)
                  (get_or-set_same old node (state_at state node) Zero inside))
            ]
      ]
    ]

-- at the end each node has the state that is meant
pub lags_end : (i : ℕ) (list : List ℕ) (state now : List Tern) → length list ≤ i → length now ≡ length state → LagsFrom i list state now → now ≡ state
lags_end i list state now past counted lags =
    ext_get_or Zero now state counted (λ node inside.
    elim (lags node) [ inl same ↦ same | inr (j, low, below, here) ↦ absurd (omega (arith, low, below, past)) ])

-- a node that is placed in the good run at its own state stays there
pub placed_same : (good : List Tern) (node : ℕ) → slice_set good node (state_at good node) ≡ good
placed_same good node = set-get_or good node Zero
