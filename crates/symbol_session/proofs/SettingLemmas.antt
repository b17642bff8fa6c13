-- Edits and settings in all columns: what the session's columns do, the script's columns do, beside what was missed and kept there.
use Rattle.std.proofs.Common.{◌≡◌, ◌≢◌, ℕ, ◌<◌, ◌≤◌, ◌-◌, Bool, List, length, replicate, Result, Ok, Err, refl, ap, ◌∙◌, arith, length-append}
use Rattle.std.specs.Prelude.{IfErr}
use Rattle.ternary.specs.declared.tern.Tern.{Tern}
use Rattle.ternary.specs.declared.tern.Tern.TheVariants.{Unk}
use Rattle.netlist.specs.Circuits.{CircuitData}
use Rattle.switch_paths.specs.Graphs.{nodes}
use Rattle.script_lang.specs.declared.command.Command.{Command}
use Rattle.script_lang.specs.declared.command.Command.TheVariants as family
use Rattle.script_lang.specs.declared.command.Edit.{Edit}
use Rattle.script_lang.specs.declared.command.Setup.{Setup}
use Rattle.script_lang.specs.declared.command.Setup.TheVariants.{Watch, Limit, Clock, Keep, Widen, Save, Vector}
use Rattle.column_script.specs.Commands.{IsSharedSetup}
use Rattle.session_meaning.specs.declared.fault.ApplyFault.{ApplyFault}
use Rattle.session_meaning.specs.declared.fault.ApplyFault.TheVariants as apply
use Rattle.session_meaning.specs.Sessions.{SessionData}
use Rattle.session_meaning.specs.Columns.{column_of}
use Rattle.session_meaning.specs.Effects.{circuit_after, setup_after}
use Rattle.session_meaning.specs.Outcomes.{Quietly}
use Rattle.session_meaning.specs.Refusals.{refusal_of}
use Rattle.session_meaning.specs.Truths.{QuietlyInEach}
use Rattle.symbol_stage.specs.Stages.{columns_on, states_in}
use Rattle.truth_makers.specs.Makers.{columns_in}
use Rattle.symbol_session.specs.Asked.{IsOfSetup, QuietlyAsked}
use Rattle.symbol_session.specs.Sessions.{IsSymbolSession, SymbolData, data_of, maker_of}
use Rattle.symbol_session.specs.Turns.{turn_of, want}
use Rattle.symbol_session.proofs.DataLemmas.{GoesOn, data_on}

-- ---- beside what was missed and kept

-- these data with others of what was missed and kept
abbrev beside : SessionData → Bool → List (List ℕ × List Tern) → SessionData
beside s missed saves = record s { missed = missed; saves = saves }

-- a setting that is the same in each column looks at neither
setup_beside : (setup : Setup) → IsSharedSetup setup → (s : SessionData) (missed : Bool) (saves : List (List ℕ × List Tern)) →
    beside (setup_after s setup) missed saves ≡ setup_after (beside s missed saves) setup
setup_beside (Watch names) shared s missed saves = refl
setup_beside (Limit number) shared s missed saves = refl
setup_beside (Clock list) shared s missed saves = refl
setup_beside (Keep number) none s missed saves = absurd none
setup_beside (Widen number) shared s missed saves = refl
setup_beside (Save name) none s missed saves = absurd none
setup_beside (Vector name words) shared s missed saves = refl

setup_refused : (setup : Setup) → IsSharedSetup setup → (s : SessionData) (missed : Bool) (saves : List (List ℕ × List Tern)) →
    refusal_of (beside s missed saves) (family.Setup setup) ≡ refusal_of s (family.Setup setup)
setup_refused (Watch names) shared s missed saves = refl
setup_refused (Limit number) shared s missed saves = refl
setup_refused (Clock list) shared s missed saves = refl
setup_refused (Keep number) none s missed saves = absurd none
setup_refused (Widen number) shared s missed saves = refl
setup_refused (Save name) none s missed saves = absurd none
setup_refused (Vector name words) shared s missed saves = refl

module _ (old new : SymbolData) (own : IsSymbolSession old) (goes : GoesOn old new) (some : 0 < columns_in (maker_of old)) where
  -- a column that is as before
  pub same_on : (column : ℕ) → column < columns_in (maker_of old) → column_of states_in new.session column ≡ column_of states_in old.session column →
      data_of new column ≡ data_of old column
  same_on column inside same =
      data_on old new own goes column inside
      ∙ ap (λ (s : SessionData). beside s (data_of old column).missed (data_of old column).saves) same

  pub edit_asked : (edit : Edit) (ended : Result (Unit {0}) ApplyFault) →
      QuietlyInEach (columns_on old.session.stage) (column_of states_in old.session) (λ _. family.Edit edit) (column_of states_in new.session) ended →
      QuietlyAsked (columns_in (maker_of old)) (data_of old) (family.Edit edit) (data_of new) (turn_of ended)
  edit_asked edit (Ok done) each = λ column inside.
      let does = each column inside in
      record {
        allowed = does.allowed;
        effect = (
          data_on old new own goes column inside
              ∙ ap (λ (s : SessionData). beside s (data_of old column).missed (data_of old column).saves) does.effect.0,
          refl,
        );
      }
  edit_asked edit (Err (apply.Refused refusal)) each =
      ((refusal, refl, λ column inside. (each column inside).0), λ column inside. same_on column inside (each column inside).1)
  edit_asked edit (Err (apply.GroupNodes node count)) each = each 0 some
  edit_asked edit (Err (apply.GroupSwitches node count)) each = each 0 some
  edit_asked edit (Err apply.WriteFault) each = tt
  edit_asked edit (Err apply.NoMemory) each = tt

  pub setup_asked : (setup : Setup) → IsSharedSetup setup → (ended : Result (Unit {0}) ApplyFault) →
      QuietlyInEach (columns_on old.session.stage) (column_of states_in old.session) (λ _. family.Setup setup) (column_of states_in new.session) ended →
      QuietlyAsked (columns_in (maker_of old)) (data_of old) (family.Setup setup) (data_of new) (turn_of ended)
  setup_asked setup shared (Ok done) each = λ column inside.
      let does = each column inside in
      let missed = (data_of old column).missed in
      let saves = (data_of old column).saves in
      record {
        allowed = setup_refused setup shared (column_of states_in old.session column) missed saves ∙ does.allowed;
        effect = (
          data_on old new own goes column inside ∙ ap (λ (s : SessionData). beside s missed saves) does.effect.0
              ∙ setup_beside setup shared (column_of states_in old.session column) missed saves,
          refl,
        );
      }
  setup_asked setup shared (Err (apply.Refused refusal)) each = (
    (
      refusal,
      refl,
      λ column inside. setup_refused setup shared (column_of states_in old.session column) (data_of old column).missed (data_of old column).saves
          ∙ (each column inside).0,
    ),
    λ column inside. same_on column inside (each column inside).1,
  )
  setup_asked setup shared (Err (apply.GroupNodes node count)) each = each 0 some
  setup_asked setup shared (Err (apply.GroupSwitches node count)) each = each 0 some
  setup_asked setup shared (Err apply.WriteFault) each = tt
  setup_asked setup shared (Err apply.NoMemory) each = tt

-- ---- what the session counts, and its nodes

-- an edit counts no waveform line
pub edit_counts : (old new : SessionData) (edit : Edit) (ended : Result (Unit {0}) ApplyFault) → Quietly old (family.Edit edit) new ended → new.count ≡ old.count
edit_counts old new edit (Ok done) does = ap (λ (s : SessionData). s.count) does.effect.0
edit_counts old new edit (Err (apply.Refused refusal)) (cause, same) = ap (λ (s : SessionData). s.count) same
edit_counts old new edit (Err (apply.GroupNodes node count)) none = absurd none
edit_counts old new edit (Err (apply.GroupSwitches node count)) none = absurd none
edit_counts old new edit (Err apply.WriteFault) none = absurd none
edit_counts old new edit (Err apply.NoMemory) same = ap (λ (s : SessionData). s.count) same

-- and loses no node
pub edit_grows : (old new : SessionData) (edit : Edit) (ended : Result (Unit {0}) ApplyFault) → length old.state ≡ nodes old.circuit.graph →
    length new.state ≡ nodes new.circuit.graph → Quietly old (family.Edit edit) new ended → nodes old.circuit.graph ≤ nodes new.circuit.graph
edit_grows old new edit (Ok done) was is does =
    let c : CircuitData = circuit_after old.circuit old.vectors edit in
    let longer = ap (λ (s : SessionData). length s.state) does.effect.0 ∙ length-append old.state (replicate (nodes c.graph - length old.state) Unk) in
    omega (arith, was, is, longer)
edit_grows old new edit (Err (apply.Refused refusal)) was is (cause, same) = omega (arith, ap (λ (s : SessionData). nodes s.circuit.graph) same)
edit_grows old new edit (Err (apply.GroupNodes node count)) was is none = absurd none
edit_grows old new edit (Err (apply.GroupSwitches node count)) was is none = absurd none
edit_grows old new edit (Err apply.WriteFault) was is none = absurd none
edit_grows old new edit (Err apply.NoMemory) was is same = omega (arith, ap (λ (s : SessionData). nodes s.circuit.graph) same)

-- a setting leaves both
setup_circuit : (s : SessionData) (setup : Setup) → ((setup_after s setup).circuit ≡ s.circuit) × ((setup_after s setup).count ≡ s.count)
setup_circuit s (Watch names) = (refl, refl)
setup_circuit s (Limit number) = (refl, refl)
setup_circuit s (Clock list) = (refl, refl)
setup_circuit s (Keep number) = (refl, refl)
setup_circuit s (Widen number) = (refl, refl)
setup_circuit s (Save name) = (refl, refl)
setup_circuit s (Vector name words) = (refl, refl)

pub setup_leaves : (old new : SessionData) (setup : Setup) (ended : Result (Unit {0}) ApplyFault) → Quietly old (family.Setup setup) new ended →
    (new.circuit ≡ old.circuit) × (new.count ≡ old.count)
setup_leaves old new setup (Ok done) does =
    let (circuit, count) = setup_circuit old setup in
    (ap (λ (s : SessionData). s.circuit) does.effect.0 ∙ circuit, ap (λ (s : SessionData). s.count) does.effect.0 ∙ count)
setup_leaves old new setup (Err (apply.Refused refusal)) (cause, same) = (ap (λ (s : SessionData). s.circuit) same, ap (λ (s : SessionData). s.count) same)
setup_leaves old new setup (Err (apply.GroupNodes node count)) none = absurd none
setup_leaves old new setup (Err (apply.GroupSwitches node count)) none = absurd none
setup_leaves old new setup (Err apply.WriteFault) none = absurd none
setup_leaves old new setup (Err apply.NoMemory) same = (ap (λ (s : SessionData). s.circuit) same, ap (λ (s : SessionData). s.count) same)

-- ---- answers

-- where nothing was told, memory alone ran out
pub quiet_memory : (old new : SessionData) (command : Command) (ended : Result (Unit {0}) ApplyFault) → Quietly old command new ended →
    IfErr (turn_of ended) (λ fault. fault ≡ want)
quiet_memory old new command (Ok done) does = tt
quiet_memory old new command (Err (apply.Refused refusal)) is = tt
quiet_memory old new command (Err (apply.GroupNodes node count)) none = absurd none
quiet_memory old new command (Err (apply.GroupSwitches node count)) none = absurd none
quiet_memory old new command (Err apply.WriteFault) none = absurd none
quiet_memory old new command (Err apply.NoMemory) same = refl

-- a setting that keeps no states is the same in each column
pub shared_setup : (setup : Setup) → IsOfSetup setup → ((name : List ℕ) → setup ≢ Save name) → IsSharedSetup setup
shared_setup (Watch names) own other = tt
shared_setup (Limit number) own other = tt
shared_setup (Clock list) own other = tt
shared_setup (Keep number) never other = absurd never
shared_setup (Widen number) never other = absurd never
shared_setup (Save name) own other = absurd (other name refl)
shared_setup (Vector name words) own other = tt
