-- What is done to a session over a stage that may run out is done in each column: the data that all share, and the column's states.
use Rattle.std.proofs.Common.{◌≡◌, ℕ, zero, suc, ◌+◌, ◌<◌, ◌≤◌, ◌⊎◌, true, List, [], ◌∷◌, length, map, get_or, drop, All, None, Ok, Err, refl, sym, ap, subst, ◌∙◌, inl, inr, arith}
use Rattle.std.specs.Prelude.{Result, OnErr, OnOk, slice_set}
use Rattle.std.proofs.lemmas.Bool.{cases_eq}
use Rattle.std.proofs.lemmas.List.{drop_more}
use Rattle.ternary.specs.declared.tern.Tern.{Tern}
use Rattle.switch_paths.specs.declared.TheConstants.{RAILS}
use Rattle.switch_paths.specs.Step.{IsStep}
use Rattle.settling.specs.declared.settling.Settled.{Settled}
use Rattle.column_settling.specs.Together.{SettleTogether}
use Rattle.group_text.specs.Texts.{GroupTextData}
use Rattle.circuit_texts.specs.declared.texts.BuildFault.{BuildFault}
use Rattle.circuit_texts.specs.declared.texts.BuildFault.TheVariants as build
use Rattle.column_stage.specs.Acts.{Act, Built, Leads, LeadsBy, Reserved}
use Rattle.column_stage.specs.Moving.{MovesColumns}
use Rattle.column_stage.specs.Truths.{KeepsGiven}
use Rattle.column_stage.proofs.GivenLemmas.{keeps_more, keeps_none}
use Rattle.script_lang.specs.declared.value.Value.{Value}
use Rattle.column_script.specs.declared.command.ValueCommand.{ValueCommand}
use Rattle.column_script.specs.declared.command.ValueCommand.TheVariants as value
use Rattle.session_meaning.specs.declared.fault.ApplyFault.{ApplyFault}
use Rattle.session_meaning.specs.declared.fault.ApplyFault.TheVariants.{Refused, GroupNodes, GroupSwitches, WriteFault, NoMemory}
use Rattle.session_meaning.specs.Sessions.{SessionData, HeldSession}
use Rattle.session_meaning.specs.Refusals.{refusal_of}
use Rattle.session_meaning.specs.Effects.{assigned, one_more, states_by}
use Rattle.session_meaning.specs.Stages.{IsEditing, IsSettled, IsStill, ReadiesBy, TooLarge}
use Rattle.session_meaning.specs.Columns.{Cuts, StepInAll, column_of}
use Rattle.session_meaning.specs.Truths.{GivenInAll, QuietlyInEach, RanOut, ReadiesInAll, SettledTogether, StaysInAll, TooLargeInAll, give_of}
use Rattle.session_meaning.proofs.ColumnLemmas.{column_built, column_data, stepped_in_all}
use Rattle.session_meaning.proofs.ValueLemmas.{charge-past, set-past}

-- ---- builds

-- what making a session ready comes to, it comes to in all columns
module _ {M : Type 0} (cuts : Cuts) (columns : M → ℕ) (states : M → ℕ → List Tern) (did : Act → M → M → Type 0) (old mid : HeldSession M)
    (asked known : List GroupTextData) (still : (column : ℕ) → column < columns old.stage → states mid.stage column ≡ states old.stage column) where
  large_in_each : (fault : BuildFault) → TooLarge old mid asked known fault →
      TooLargeInAll (columns old.stage) (column_of states old) (column_of states mid) asked known fault
  large_in_each fault large = record {
    first = λ column inside. large.first;
    same = λ column inside. ap (λ (s : HeldSession M). column_of states s column) large.same;
    unasked = large.unasked;
  }

  pub readies_in_all : (result : Result (Unit {0}) ApplyFault) → ReadiesBy cuts did old mid asked known result →
      ReadiesInAll cuts (columns old.stage) (column_of states old) (column_of states mid) asked known result
  readies_in_all (Ok done) ready = record {
    texts = ready.texts;
    each = column_built columns states did old mid asked known ready still;
    analysed = ready.analysed;
  }
  readies_in_all (Err (Refused refusal)) none = absurd none
  readies_in_all (Err (GroupNodes node count)) large = large_in_each (build.GroupNodes node count) large
  readies_in_all (Err (GroupSwitches node count)) large = large_in_each (build.GroupSwitches node count) large
  readies_in_all (Err WriteFault) none = absurd none
  readies_in_all (Err NoMemory) cut = record {
    core = λ column inside.
        column_data states mid (record old.core { kept = mid.core.kept }) column (states old.stage column) cut.core (still column inside);
    cut_off = λ column inside. cut.cut_off;
  }

-- ---- what is the stage's own

module _ {M A : Type 0} (columns : M → ℕ) (states : M → ℕ → List Tern) (did : Act → M → M → Type 0)
    (moves : (act : Act) (old new : M) → did act old new → MovesColumns columns states act old new) (gives : M → A → Type 0) (letter_of : M → A → ℕ → Tern)
    (bound : M → ℕ) (keeps : (act : Act) (old new : M) → did act old new → KeepsGiven columns gives letter_of bound old new) where
  -- it stays so, whatever acts were done
  keeps_led : (acts : List Act) (old new : M) → Leads did old acts new → KeepsGiven columns gives letter_of bound old new
  keeps_led [] old new same = subst (λ (stage : M). KeepsGiven columns gives letter_of bound old stage) (sym same) (keeps_none columns gives letter_of bound old)
  keeps_led (act ∷ acts) old new (mid, done, rest) =
      keeps_more columns gives letter_of bound old mid new (moves act old mid done).count (keeps act old mid done) (keeps_led acts mid new rest)

  keeps_still : (old new : M) → IsStill did old new → KeepsGiven columns gives letter_of bound old new
  keeps_still old new (inl same) = subst (λ (stage : M). KeepsGiven columns gives letter_of bound old stage) (sym same) (keeps_none columns gives letter_of bound old)
  keeps_still old new (inr roomed) = keeps Reserved old new roomed

  -- in an edit
  pub edit_keeps_given : (old new : M) (result : Result (Unit {0}) ApplyFault) → OnOk result (LeadsBy did IsEditing old new) →
      OnErr result (IsStill did old new) → KeepsGiven columns gives letter_of bound old new
  edit_keeps_given old new (Ok done) led still = keeps_led led.acts old new led.leads
  edit_keeps_given old new (Err fault) led still = keeps_still old new still

  -- and in a build, whatever comes of it
  pub ready_keeps_given : (cuts : Cuts) (old mid : HeldSession M) (asked known : List GroupTextData) (result : Result (Unit {0}) ApplyFault) →
      ReadiesBy cuts did old mid asked known result → KeepsGiven columns gives letter_of bound old.stage mid.stage
  ready_keeps_given cuts old mid asked known (Ok done) ready = keeps (Built old.core.large old.core.circuit.graph) old.stage mid.stage ready.built
  ready_keeps_given cuts old mid asked known (Err (Refused refusal)) none = absurd none
  ready_keeps_given cuts old mid asked known (Err (GroupNodes node count)) large =
      subst (λ (s : HeldSession M). KeepsGiven columns gives letter_of bound old.stage s.stage) (sym large.same) (keeps_none columns gives letter_of bound old.stage)
  ready_keeps_given cuts old mid asked known (Err (GroupSwitches node count)) large =
      subst (λ (s : HeldSession M). KeepsGiven columns gives letter_of bound old.stage s.stage) (sym large.same) (keeps_none columns gives letter_of bound old.stage)
  ready_keeps_given cuts old mid asked known (Err WriteFault) none = absurd none
  ready_keeps_given cuts old mid asked known (Err NoMemory) cut =
      subst (λ (stage : M). KeepsGiven columns gives letter_of bound old.stage stage) (sym cut.stage)
      (keeps_none columns gives letter_of bound old.stage)

-- ---- one more node

-- one more node was given its letter
pub letters_more : {A : Type 0} (letter : A → Tern) (list : List (ℕ × A)) (place : ℕ) (pair : ℕ × A) (state new : List Tern) → place < length list →
    pair ≡ get_or list place pair → new ≡ slice_set state pair.0 (letter pair.1) →
    assigned new (map (λ (one : ℕ × A). (one.0, letter one.1)) (drop (place + 1) list))
    ≡ assigned state (map (λ (one : ℕ × A). (one.0, letter one.1)) (drop place list))
letters_more {A} letter list place pair state new inside is set =
    let give : List (ℕ × A) → List (ℕ × Tern) = λ left. map (λ (one : ℕ × A). (one.0, letter one.1)) left in
    ap (λ (now : List Tern). assigned now (give (drop (place + 1) list))) set
    ∙ sym (ap (λ (left : List (ℕ × A)). assigned state (give left)) (drop_more list place pair inside)
    ∙ ap (λ (first : ℕ × A). assigned state (give (first ∷ drop (place + 1) list))) (sym is))

-- ---- something for each of so many

-- what is chosen for a number that is this one or not
choose_at : {A : Type 0} {k n : ℕ} → A → A → (k ≡ n) ⊎ (k ≡ n → ⊥) → A
choose_at here there (inl same) = here
choose_at here there (inr differs) = there

choose_is : {A : Type 0} (P : ℕ → A → Type 0) (n k : ℕ) (here there : A) → P n here → (k < n → P k there) → k < suc n →
    (found : (k ≡ n) ⊎ (k ≡ n → ⊥)) → P k (choose_at here there found)
unfolding choose_at
choose_is P n k here there is below inside (inl same) = subst (λ (i : ℕ). P i here) (sym same) is
choose_is P n k here there is below inside (inr differs) = below (omega (arith, inside, differs))

-- if there is something for each number below a count, a function gives it
chosen : {A : Type 0} (P : ℕ → A → Type 0) (past : A) (count : ℕ) → ((k : ℕ) → k < count → (a : A) × P k a) →
    (f : ℕ → A) × ((k : ℕ) → k < count → P k (f k))
chosen P past zero own = (λ k. past, λ k inside. absurd (omega (arith, inside)))
chosen P past (suc count) own =
    let front = chosen P past count (λ k inside. own k (omega (arith, inside))) in
    let last = own count (omega arith) in (
      λ k. choose_at last.0 (front.0 k) (cases_eq k count),
      λ k inside. choose_is P count k last.0 (front.0 k) last.1 (front.1 k) inside (cases_eq k count),
    )

-- ---- what all columns share, and their states

module _ {M : Type 0} (columns : M → ℕ) (states : M → ℕ → List Tern) (old new : HeldSession M) where
  module _ (same : new.core ≡ record old.core { state = new.core.state }) where
    -- nodes were given letters
    pub given_in_all : (pairs : ℕ → List (ℕ × Tern)) →
        ((column : ℕ) → column < columns old.stage → states new.stage column ≡ assigned (states old.stage column) (pairs column)) →
        GivenInAll (columns old.stage) (column_of states old) (column_of states new) pairs
    given_in_all pairs given = record {
      each = λ column inside.
          column_data states new (record old.core { state = new.core.state }) column (assigned (states old.stage column) (pairs column)) same (given column inside);
    }

    -- the stage ran out
    pub ran_out : RanOut (columns old.stage) (column_of states old) (column_of states new)
    ran_out = record {
      each = λ column inside. column_data states new (record old.core { state = new.core.state }) column (states new.stage column) same refl;
    }

    -- before anything moved
    pub stays_in_all : ((column : ℕ) → column < columns old.stage → states new.stage column ≡ states old.stage column) →
        StaysInAll (columns old.stage) (column_of states old) (column_of states new)
    stays_in_all stays = record {
      each = λ column inside. column_data states new (record old.core { state = new.core.state }) column (states old.stage column) same
          (stays column inside);
    }

  -- all settled together, and a line more is counted
  module _ (core : new.core ≡ record old.core { state = new.core.state; count = one_more old.core.count }) (told : Settled)
      (together : SettleTogether old.core.circuit.graph (columns old.stage) (states old.stage) old.core.limit (states new.stage) told) where
    moved_so : (column : ℕ) → column_of states new column ≡ record (column_of states old column) { state = states new.stage column; count = one_more old.core.count }
    moved_so column =
        column_data states new (record old.core { state = new.core.state; count = one_more old.core.count }) column
        (states new.stage column) core refl

    -- a column's count: the column that has what is told has just that
    abbrev IsCount : ℕ → Settled → Type 0
    IsCount column own =
        IsSettled (column_of states old column) (column_of states new column) own.steps own.joined × (own.steps ≤ told.steps)
        × (own.joined ≡ true → told.joined ≡ true) × (column ≡ together.greatest.0 → own ≡ told)

    count_of : (column : ℕ) → column < columns old.stage → (column ≡ together.greatest.0) ⊎ (column ≡ together.greatest.0 → ⊥) → (own : Settled) × IsCount column own
    count_of column inside (inl same) =
        let first = together.greatest in
        let settled : IsSettled (column_of states old first.0) (column_of states new first.0) told.steps told.joined =
        record { next = states new.stage first.0; settles = first.2; moved = moved_so first.0 } in (
          told,
          (
            subst (λ (k : ℕ). IsSettled (column_of states old k) (column_of states new k) told.steps told.joined) (sym same) settled,
            omega arith,
            λ joined. joined,
            λ is. refl,
          ),
        )
    count_of column inside (inr differs) =
        let one = together.each column inside in (
          one.own,
          (
            record { next = states new.stage column; settles = one.settles; moved = moved_so column },
            one.few,
            one.joined,
            λ is. absurd (differs is),
          ),
        )

    pub settled_together : SettledTogether (columns old.stage) (column_of states old) (column_of states new) told
    settled_together =
        let all = chosen IsCount told (columns old.stage) (λ column inside. count_of column inside (cases_eq column together.greatest.0)) in
        let first = together.greatest in
        record {
          count = all.0;
          settled = record { each = λ column inside. (all.1 column inside).0 };
          few = λ column inside. (all.1 column inside).1;
          joined = λ column inside. (all.1 column inside).2;
          greatest = (first.0, first.1, (all.1 first.0 first.1).3 refl);
        }

-- a line more was counted behind what moved
module _ {M : Type 0} (columns : M → ℕ) (states : M → ℕ → List Tern) (old mid new : HeldSession M)
    (moved : mid.core ≡ record old.core { state = mid.core.state }) (counted : new.core ≡ record mid.core { count = one_more mid.core.count })
    (same : new.stage ≡ mid.stage) where
  core_counted : new.core ≡ record old.core { state = new.core.state; count = one_more old.core.count }
  core_counted =
      counted ∙ ap (λ (s : SessionData). record s { count = one_more s.count }) moved
      ∙ ap (λ (state : List Tern). record old.core { state = state; count = one_more old.core.count }) (sym (ap (λ (s : SessionData). s.state) counted))

  pub stepped_counted : ((column : ℕ) → column < columns old.stage →
      IsStep old.core.circuit.graph (states old.stage column) (states mid.stage column)) →
      StepInAll (columns old.stage) (column_of states old) (column_of states new)
  stepped_counted steps =
      stepped_in_all columns states old new core_counted
      (subst (λ (stage : M). (column : ℕ) → column < columns old.stage → IsStep old.core.circuit.graph (states old.stage column) (states stage column)) (sym same) steps)

  pub settled_counted : (told : Settled) →
      SettleTogether old.core.circuit.graph (columns old.stage) (states old.stage) old.core.limit (states mid.stage) told →
      SettledTogether (columns old.stage) (column_of states old) (column_of states new) told
  settled_counted told together =
      settled_together columns states old new core_counted told
      (subst (λ (stage : M). SettleTogether old.core.circuit.graph (columns old.stage) (states old.stage) old.core.limit (states stage) told) (sym same) together)

-- what holds in any case holds where there is a fault
pub on_err : {A E : Type 0} {P : Type 0} (result : Result A E) → P → OnErr result P
on_err (Ok value) is = tt
on_err (Err fault) is = is

-- ---- values

-- nodes that were given what each column's values give did what the column's command says
pub gives_in_each : (columns : ℕ) (old new : ℕ → SessionData) (kind : ValueCommand) (lists : ℕ → List (List ℕ × Value))
    (pairs : ℕ → List (ℕ × Tern)) →
    GivenInAll columns old new pairs → ((column : ℕ) → column < columns → refusal_of (old column) (give_of kind (lists column)) ≡ None) →
    ((column : ℕ) → column < columns → pairs column ≡ states_by (old column).circuit (old column).vectors (lists column)) →
    QuietlyInEach columns old (λ column. give_of kind (lists column)) new (Ok tt)
gives_in_each columns old new value.Set lists pairs given allowed are column inside = record {
  allowed = allowed column inside;
  effect = (
    given.each column inside ∙ ap (λ (states : List (ℕ × Tern)). record (old column) { state = assigned (old column).state states })
        (are column inside),
    refl,
  );
}
gives_in_each columns old new value.Charge lists pairs given allowed are column inside = record {
  allowed = allowed column inside;
  effect = (
    given.each column inside ∙ ap (λ (states : List (ℕ × Tern)). record (old column) { state = assigned (old column).state states })
        (are column inside),
    refl,
  );
}

-- values that aren't refused give no rail a state
pub past_allowed : (core : SessionData) (kind : ValueCommand) (list : List (List ℕ × Value)) → refusal_of core (give_of kind list) ≡ None →
    All (λ (pair : ℕ × Tern). RAILS ≤ pair.0) (states_by core.circuit core.vectors list)
past_allowed core value.Set list none = set-past core.circuit core.vectors list none
past_allowed core value.Charge list none = charge-past core.circuit core.vectors list none
