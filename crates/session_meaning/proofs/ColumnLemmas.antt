-- The columns of a session: each is one, and what is done to what they share and to their states is done to each.
-- The plan: what the columns share is the data's, so an equation of the data is one of each column once its states are put in; and the states of a
-- column move as the acts say that were done to the stage.
use Rattle.std.proofs.Common.{◌≡◌, ℕ, ◌+◌, ◌-◌, ◌<◌, false, List, [], ◌∷◌, ◌++◌, length, map, replicate, All, Ok, Err, refl, sym, ap, subst, ◌∙◌, inl, inr, arith, append_assoc, append-nil, length-append}
use Rattle.std.specs.Prelude.{Result, OnErr, OnOk}
use Rattle.std.proofs.lemmas.List.{get_or-replicate, length-replicate, replicate-append-replicate}
use Rattle.std.proofs.lemmas.List.Elements.{All-head, All-tail}
use Rattle.ternary.specs.declared.tern.Tern.{Tern}
use Rattle.ternary.specs.declared.tern.Tern.TheVariants.{Unk}
use Rattle.switch_paths.specs.Graphs.{GraphData, nodes}
use Rattle.switch_paths.specs.Step.{IsStep}
use Rattle.settling.specs.declared.settling.Settled.{Settled}
use Rattle.settling.specs.Settling.{Settles}
use Rattle.group_text.specs.Texts.{GroupTextData}
use Rattle.netlist.specs.Circuits.{CircuitData, IsCircuit}
use Rattle.netlist.specs.Edits.{node_named}
use Rattle.column_stage.specs.Acts.{Act, Reserved, Placed, Edited, Built, Stepped, Rested, Leads, LeadsBy}
use Rattle.column_stage.specs.Columns.{AreSound, with_new_nodes}
use Rattle.column_stage.specs.Moving.{MovesColumns, MovesState}
use Rattle.script_lang.specs.declared.command.Command.TheVariants as family
use Rattle.script_lang.specs.declared.command.Edit.{Edit}
use Rattle.script_lang.specs.declared.command.Setup.{Setup}
use Rattle.script_lang.specs.declared.command.Setup.TheVariants.{Watch, Limit, Clock, Keep, Widen, Save, Vector}
use Rattle.column_script.specs.declared.command.ColumnCommand.TheVariants.{Shared}
use Rattle.column_script.specs.Commands.{IsSharedSetup, value_in}
use Rattle.session_meaning.specs.declared.fault.ApplyFault.{ApplyFault}
use Rattle.session_meaning.specs.declared.fault.ApplyFault.TheVariants.{Refused, GroupNodes, GroupSwitches, WriteFault, NoMemory}
use Rattle.session_meaning.specs.Sessions.{SessionData, HeldSession, IsHeldSession, IsReady, IsSession}
use Rattle.session_meaning.specs.Preparing.{IsBuild, with_present}
use Rattle.session_meaning.specs.Effects.{assigned, circuit_after, one_more, setup_after, states_with, with_beat, with_circuit}
use Rattle.session_meaning.specs.Outcomes.{Quietly}
use Rattle.session_meaning.specs.Stages.{IsEditing, IsStill, Readied}
use Rattle.session_meaning.specs.Columns.{BeatInAll, QuietlyInAll, SettledInAll, StepInAll, acts_of_letters, column_of, count_in, given_states}
use Rattle.session_meaning.proofs.ClockLemmas.{IsSession-beside}
use Rattle.session_meaning.proofs.LetterLemmas.{refused_alike}
use Rattle.session_meaning.proofs.StateLemmas.{length-settles, sound-settles, sound-step}

-- ---- each column is a session

module _ {M : Type 0} (columns : M → ℕ) (states : M → ℕ → List Tern) (serves : M → GraphData → List GroupTextData → Type 0) (session : HeldSession M)
    (held : IsHeldSession columns states serves session) where
  pub column_session : (column : ℕ) → column < columns session.stage → IsSession (column_of states session column)
  column_session column inside =
      let core = session.core in
      let sound = held.sound column inside in
      IsSession-beside core (states session.stage column) core.count core.missed core.bound core.kept core.fresh sound.counted sound.sound held.core

  pub column_ready : (column : ℕ) → column < columns session.stage → IsReady (column_of states session column)
  column_ready column inside = (column_session column inside).ready

-- ---- data

-- what holds of the data, with a column's states in their place
pub column_data : {M : Type 0} (states : M → ℕ → List Tern) (new : HeldSession M) (core : SessionData) (column : ℕ) (state : List Tern) → new.core ≡ core →
    states new.stage column ≡ state → column_of states new column ≡ record core { state = state }
column_data states new core column state same is =
    ap (λ (s : SessionData). record s { state = states new.stage column }) same ∙ ap (λ (one : List Tern). record core { state = one }) is

-- clocks' nodes that were given their states in each column
pub beat_put : {M : Type 0} (columns : M → ℕ) (states : M → ℕ → List Tern) (old new : HeldSession M) (place : ℕ) →
    new.core ≡ with_beat old.core place →
    ((column : ℕ) → column < columns old.stage → states new.stage column ≡ states_with old.core.clocks place (states old.stage column)) →
    BeatInAll (columns old.stage) (column_of states old) (column_of states new) place
beat_put columns states old new place beat each = record {
  each = λ column inside.
      column_data states new (with_beat old.core place) column (states_with old.core.clocks place (states old.stage column)) beat
      (each column inside);
}

-- what was built for all columns was built for each
pub column_built : {M : Type 0} (columns : M → ℕ) (states : M → ℕ → List Tern) (did : Act → M → M → Type 0) (old mid : HeldSession M)
    (asked known : List GroupTextData) (ready : Readied did old mid asked known) →
    ((column : ℕ) → column < columns old.stage → states mid.stage column ≡ states old.stage column) → (column : ℕ) → column < columns old.stage →
    IsBuild (column_of states old column) (column_of states mid column) ready.texts
column_built columns states did old mid asked known ready still column inside = record {
  present = ready.build.present;
  has = ready.build.has;
  news = ready.build.news;
  used = column_data states mid (with_present old.core ready.build.present) column (states old.stage column) ready.build.used (still column inside);
}

-- ---- acts

module _ {M : Type 0} (columns : M → ℕ) (states : M → ℕ → List Tern) (did : Act → M → M → Type 0)
    (moves : (act : Act) (old new : M) → did act old new → MovesColumns columns states act old new) where
  -- an act of an edit adds some nodes that are X
  grown_one : (act : Act) → IsEditing act → (column : ℕ) (old new : List Tern) → MovesState column act old new → (count : ℕ) × (new ≡ old ++ replicate count Unk)
  grown_one Reserved editing column old new same = (0, same ∙ sym (append-nil old))
  grown_one (Edited g change) editing column old new grown = (nodes g - length old, grown)
  grown_one (Placed g node letters) editing column old new moved = absurd editing
  grown_one (Built large g) editing column old new moved = absurd editing
  grown_one (Stepped g) editing column old new moved = absurd editing
  grown_one (Rested g limit counts) editing column old new moved = absurd editing

  -- so do the acts of an edit, one after the other
  grown_by : (acts : List Act) (old new : M) → All IsEditing acts → Leads did old acts new →
      (columns new ≡ columns old) × ((column : ℕ) → column < columns old →
      (count : ℕ) × (states new column ≡ states old column ++ replicate count Unk))
  grown_by [] old new each same =
      (ap columns same, λ column inside. (0, ap (λ (stage : M). states stage column) same ∙ sym (append-nil (states old column))))
  grown_by (act ∷ acts) old new each (mid, done, rest) =
      let moved = moves act old mid done in
      let later = grown_by acts mid new (All-tail IsEditing act acts each) rest in (
        later.0 ∙ moved.count,
        λ column inside.
            let within : column < columns mid = subst (λ (n : ℕ). column < n) (sym moved.count) inside in
            let one = grown_one act (All-head IsEditing act acts each) column (states old column) (states mid column) (moved.each column inside) in
            let more = later.1 column within in (
              one.0 + more.0,
              more.1 ∙ ap (λ (state : List Tern). state ++ replicate more.0 Unk) one.1
                  ∙ append_assoc (states old column) (replicate one.0 Unk) (replicate more.0 Unk)
                  ∙ ap (λ (rest : List Tern). states old column ++ rest) (replicate-append-replicate one.0 more.0 Unk),
            ),
      )

  -- as many nodes are new as there are more
  new_nodes : (old new : List Tern) (count all : ℕ) → new ≡ old ++ replicate count Unk → length new ≡ all → new ≡ with_new_nodes old all
  new_nodes old new count all is counted =
      let whole : length old + count ≡ all =
      omega (arith, ap length is, length-append old (replicate count Unk), length-replicate count Unk, counted) in
      let more : count ≡ all - length old = omega (arith, whole) in
      is ∙ ap (λ (n : ℕ). old ++ replicate n Unk) more

  -- a stage that is still has each column's states
  still_states : (old new : M) → IsStill did old new →
      (columns new ≡ columns old) × ((column : ℕ) → column < columns old → states new column ≡ states old column)
  still_states old new (inl same) = (ap columns same, λ column inside. ap (λ (stage : M). states stage column) same)
  still_states old new (inr roomed) = ((moves Reserved old new roomed).count, (moves Reserved old new roomed).each)

  -- letters that nodes are given, from left to right, are each column's
  letters_led : (c : CircuitData) (list : List (List ℕ × List Tern)) (old new : M) → Leads did old (acts_of_letters c list) new →
      (columns new ≡ columns old)
      × ((column : ℕ) → column < columns old → states new column ≡ assigned (states old column) (given_states c (map (value_in column) list)))
  letters_led c [] old new same = (ap columns same, λ column inside. ap (λ (stage : M). states stage column) same)
  letters_led c (item ∷ list) old new (mid, done, rest) =
      let node = node_named c item.0 in
      let moved = moves (Placed c.graph node item.1) old mid done in
      let later = letters_led c list mid new rest in (
        later.0 ∙ moved.count,
        λ column inside.
            later.1 column (subst (λ (n : ℕ). column < n) (sym moved.count) inside)
            ∙ ap (λ (state : List Tern). assigned state (given_states c (map (value_in column) list))) (moved.each column inside),
      )

  pub letters_moved : (c : CircuitData) (list : List (List ℕ × List Tern)) (old new : M) → Leads did old (acts_of_letters c list) new → (column : ℕ) →
      column < columns old → states new column ≡ assigned (states old column) (given_states c (map (value_in column) list))
  letters_moved c list old new leads = (letters_led c list old new leads).1

  -- ---- edits

  module _ (serves : M → GraphData → List GroupTextData → Type 0) (old new : HeldSession M) (edit : Edit)
      (held : IsHeldSession columns states serves new) where
    -- where it was done, each column has X for each node that is new
    edited_states : LeadsBy did IsEditing old.stage new.stage → (column : ℕ) → column < columns old.stage →
        states new.stage column ≡ with_new_nodes (states old.stage column) (nodes new.core.circuit.graph)
    edited_states led column inside =
        let grown = grown_by led.acts old.stage new.stage led.each led.leads in
        let within : column < columns new.stage = subst (λ (n : ℕ). column < n) (sym grown.0) inside in
        let one = grown.1 column inside in
        new_nodes (states old.stage column) (states new.stage column) one.0 (nodes new.core.circuit.graph) one.1 (held.sound column within).counted

    -- what an edit comes to in each column
    pub edit_in_all : (result : Result (Unit {0}) ApplyFault) → Quietly old.core (family.Edit edit) new.core result →
        OnOk result (LeadsBy did IsEditing old.stage new.stage) → OnErr result (IsStill did old.stage new.stage) →
        QuietlyInAll (columns old.stage) (column_of states old) (Shared (family.Edit edit)) (column_of states new) result
    edit_in_all (Ok done) quiet led still column inside =
        let c = circuit_after old.core.circuit old.core.vectors edit in
        let same : new.core.circuit ≡ c = ap (λ (s : SessionData). s.circuit) quiet.effect.0 in
        record {
          allowed = quiet.allowed;
          effect = (
            column_data states new (with_circuit old.core c) column (with_new_nodes (states old.stage column) (nodes c.graph)) quiet.effect.0
                (subst (λ (after : CircuitData). states new.stage column ≡ with_new_nodes (states old.stage column) (nodes after.graph)) same
                (edited_states led column inside)),
            refl,
          );
        }
    edit_in_all (Err (Refused refusal)) quiet led still column inside =
        (quiet.0, column_data states new old.core column (states old.stage column) quiet.1 ((still_states old.stage new.stage still).1 column inside))
    edit_in_all (Err (GroupNodes node count)) quiet led still column inside = absurd quiet
    edit_in_all (Err (GroupSwitches node count)) quiet led still column inside = absurd quiet
    edit_in_all (Err WriteFault) quiet led still column inside = absurd quiet
    edit_in_all (Err NoMemory) quiet led still column inside =
        column_data states new old.core column (states old.stage column) quiet ((still_states old.stage new.stage still).1 column inside)

    -- and there are as many columns
    pub edit_keeps_columns : (result : Result (Unit {0}) ApplyFault) → OnOk result (LeadsBy did IsEditing old.stage new.stage) →
        OnErr result (IsStill did old.stage new.stage) → columns new.stage ≡ columns old.stage
    edit_keeps_columns (Ok done) led still = (grown_by led.acts old.stage new.stage led.each led.leads).0
    edit_keeps_columns (Err fault) led still = (still_states old.stage new.stage still).0

-- ---- settings

-- what is set doesn't depend on the states, unless these are kept
setup_beside : (core : SessionData) (state : List Tern) (setup : Setup) → IsSharedSetup setup →
    setup_after (record core { state = state }) setup ≡ record (setup_after core setup) { state = state }
setup_beside core state (Watch names) shared = refl
setup_beside core state (Limit number) shared = refl
setup_beside core state (Clock list) shared = refl
setup_beside core state (Keep number) shared = absurd shared
setup_beside core state (Widen number) shared = refl
setup_beside core state (Save name) shared = absurd shared
setup_beside core state (Vector name words) shared = refl

-- so it is set in each column
pub setup_in_all : {M : Type 0} (columns : M → ℕ) (states : M → ℕ → List Tern) (old new : HeldSession M) (setup : Setup) → IsSharedSetup setup →
    new.stage ≡ old.stage → (result : Result (Unit {0}) ApplyFault) → Quietly old.core (family.Setup setup) new.core result →
    QuietlyInAll (columns old.stage) (column_of states old) (Shared (family.Setup setup)) (column_of states new) result
setup_in_all {M} columns states old new setup shared same (Ok done) quiet column inside = record {
  allowed = refused_alike old.core (states old.stage column) (Shared (family.Setup setup)) column 0 ∙ quiet.allowed;
  effect = (
    column_data states new (setup_after old.core setup) column (states old.stage column) quiet.effect.0 (ap (λ (stage : M). states stage column) same)
        ∙ sym (setup_beside old.core (states old.stage column) setup shared),
    refl,
  );
}
setup_in_all {M} columns states old new setup shared same (Err (Refused refusal)) quiet column inside = (
  refused_alike old.core (states old.stage column) (Shared (family.Setup setup)) column 0 ∙ quiet.0,
  column_data states new old.core column (states old.stage column) quiet.1 (ap (λ (stage : M). states stage column) same),
)
setup_in_all columns states old new setup shared same (Err (GroupNodes node count)) quiet column inside = absurd quiet
setup_in_all columns states old new setup shared same (Err (GroupSwitches node count)) quiet column inside = absurd quiet
setup_in_all columns states old new setup shared same (Err WriteFault) quiet column inside = absurd quiet
setup_in_all {M} columns states old new setup shared same (Err NoMemory) quiet column inside =
    column_data states new old.core column (states old.stage column) quiet (ap (λ (stage : M). states stage column) same)

-- ---- states that stay sound

-- in a unit step of each column
pub sounds_stepped : (c : CircuitData) → IsCircuit c → (old new : ℕ → List Tern) (count after : ℕ) → after ≡ count →
    ((column : ℕ) → column < count → IsStep c.graph (old column) (new column)) → AreSound c.graph count old → AreSound c.graph after new
sounds_stepped c is old new count after same steps sound = λ column inside.
    let within : column < count = subst (λ (n : ℕ). column < n) same inside in
    let step = steps column within in
    record { counted = step.count; sound = sound-step c is (old column) (new column) step (sound column within).sound }

-- and in a phase of each
pub sounds_settled : (c : CircuitData) → IsCircuit c → (old new : ℕ → List Tern) (count after limit : ℕ) (told : ℕ → Settled) → after ≡ count →
    ((column : ℕ) → column < count → Settles c.graph (old column) limit (new column) (told column).steps (told column).joined) →
    AreSound c.graph count old →
    AreSound c.graph after new
sounds_settled c is old new count after limit told same settles sound = λ column inside.
    let within : column < count = subst (λ (n : ℕ). column < n) same inside in
    let before = sound column within in
    record {
      counted = length-settles c.graph (old column) limit (new column) (told column).steps (told column).joined before.counted
          (settles column within);
      sound = sound-settles c is (old column) limit (new column) (told column).steps (told column).joined before.counted
          (settles column within) before.sound;
    }

-- ---- counts

-- counts that are the same are each column's
pub counts_alike : (columns : ℕ) (count : Settled) (counts : List Settled) → counts ≡ replicate columns count → (column : ℕ) → column < columns →
    count_in counts column ≡ count
counts_alike columns count counts is column inside =
    ap (λ (list : List Settled). count_in list column) is ∙ get_or-replicate columns column count (record { steps = 0; joined = false }) inside

-- there is one for each
pub counts_counted : (columns : ℕ) (count : Settled) (counts : List Settled) → counts ≡ replicate columns count → length counts ≡ columns
counts_counted columns count counts is = ap length is ∙ length-replicate columns count

-- ---- steps and phases

module _ {M : Type 0} (columns : M → ℕ) (states : M → ℕ → List Tern) (old new : HeldSession M)
    (core : new.core ≡ record old.core { state = new.core.state; count = one_more old.core.count }) where
  -- a unit step of each
  pub stepped_in_all : ((column : ℕ) → column < columns old.stage →
      IsStep old.core.circuit.graph (states old.stage column) (states new.stage column)) →
      StepInAll (columns old.stage) (column_of states old) (column_of states new)
  stepped_in_all steps = record {
    each = λ column inside. record {
      next = states new.stage column;
      step = steps column inside;
      moved = column_data states new (record old.core { state = new.core.state; count = one_more old.core.count }) column (states new.stage column) core refl;
    };
  }

  -- or a phase
  pub settled_in_all : (count : ℕ → Settled) →
      ((column : ℕ) → column < columns old.stage →
      Settles old.core.circuit.graph (states old.stage column) old.core.limit (states new.stage column) (count column).steps (count column).joined) →
      SettledInAll (columns old.stage) (column_of states old) (column_of states new) count
  settled_in_all count settles = record {
    each = λ column inside. record {
      next = states new.stage column;
      settles = settles column inside;
      moved = column_data states new (record old.core { state = new.core.state; count = one_more old.core.count }) column (states new.stage column) core refl;
    };
  }
