-- A step, a phase and the placing of letters, of a session: they are those of the script's columns, beside what was missed and kept there.
use Rattle.std.proofs.Common.{◌≡◌, ℕ, ◌<◌, List, [], ◌∷◌, length, map, Result, Ok, Err, refl, sym, ap, subst, ◌∙◌, arith}
use Rattle.std.specs.Prelude.{IfErr, OnOk}
use Rattle.std.proofs.lemmas.List.{length-map}
use Rattle.std.proofs.lemmas.List.Elements.{All-cons, All-nil}
use Rattle.ternary.specs.declared.tern.Tern.{Tern}
use Rattle.netlist.specs.Circuits.{CircuitData}
use Rattle.switch_paths.specs.Graphs.{nodes}
use Rattle.switch_paths.specs.Switching.{state_at}
use Rattle.ports.specs.declared.ports.PortFault.{PortFault}
use Rattle.ports.specs.declared.ports.PortFault.TheVariants as port
use Rattle.ports.specs.Ports.{RefusedOnce, faults_after}
use Rattle.settling.specs.declared.settling.Settled.{Settled}
use Rattle.truth_columns.specs.Columns.{HasColumn}
use Rattle.truth_makers.specs.Makers.{columns_in, function_holds}
use Rattle.truth_parts.specs.Columns.{AreColumns}
use Rattle.truth_parts.specs.Columns as columns
use Rattle.truth_parts.proofs.ColumnLemmas.{states-has}
use Rattle.session_meaning.specs.Sessions.{SessionData}
use Rattle.session_meaning.specs.Columns.{BeatInAll, StepInAll, column_of}
use Rattle.session_meaning.specs.Effects.{IsPhase, IsUnitStep, one_more, with_beat}
use Rattle.session_meaning.specs.Truths.{RanOut, SettledTogether, StaysInAll}
use Rattle.symbol_stage.specs.Stages.{columns_on, states_in}
use Rattle.symbol_looking.specs.Letters.{AreRailsAt, rail_of}
use Rattle.symbol_looking.specs.Tellings.{HearsSome}
use Rattle.symbol_looking.specs.Waves as looking
use Rattle.symbol_looking.proofs.MergingLemmas.{counted_alike, counted_together}
use Rattle.symbol_comparing.specs.Rails.{AreRailsOf, rails_of}
use Rattle.symbol_told.specs.Lines.{Telling}
use Rattle.symbol_meaning.specs.Merging.{AreMerged}
use Rattle.symbol_equiv.specs.Sharing.{KeepsFunctions}
use Rattle.symbol_equiv.specs.Waves.{AreRailed}
use Rattle.symbol_run.specs.Turns.{faults_stopped, RefusedStopped, StopsAt}
use Rattle.symbol_session.specs.Moves.{Move, MovesBy, heard_by, one_step, waves_by}
use Rattle.symbol_session.specs.Sessions.{IsSymbolSession, Stays, SymbolData, data_of, maker_of}
use Rattle.symbol_session.proofs.DataLemmas.{GoesOn, data_on, held_on}
use Rattle.symbol_session.proofs.MoveLemmas.{settled_lines, stepped_lines, waved}

-- these data with others of what was missed and kept
abbrev pub beside : SessionData → SessionData → SessionData
beside s old = record s { missed = old.missed; saves = old.saves }

module _ (old new : SymbolData) (own : IsSymbolSession old) (goes : GoesOn old new) where
  lifted : (column : ℕ) → column < columns_in (maker_of old) → (s : SessionData) → column_of states_in new.session column ≡ s →
      data_of new column ≡ beside s (data_of old column)
  lifted column inside s same = data_on old new own goes column inside ∙ ap (λ (one : SessionData). beside one (data_of old column)) same

  pub beat_on : (place : ℕ) → BeatInAll (columns_on old.session.stage) (column_of states_in old.session) (column_of states_in new.session) place →
      BeatInAll (columns_in (maker_of old)) (data_of old) (data_of new) place
  beat_on place put = record { each = λ column inside. lifted column inside (with_beat (column_of states_in old.session column) place) (put.each column inside) }

  pub step_on : StepInAll (columns_on old.session.stage) (column_of states_in old.session) (column_of states_in new.session) →
      StepInAll (columns_in (maker_of old)) (data_of old) (data_of new)
  step_on steps = record {
    each = λ column inside.
        let step = steps.each column inside in
        record { next = step.next; step = step.step; moved = lifted column inside _ step.moved };
  }

  pub settled_on : (told : Settled) →
      SettledTogether (columns_on old.session.stage) (column_of states_in old.session) (column_of states_in new.session) told →
      SettledTogether (columns_in (maker_of old)) (data_of old) (data_of new) told
  settled_on told all = record {
    count = all.count;
    settled = record {
      each = λ column inside.
          let own = all.settled.each column inside in
          record { next = own.next; settles = own.settles; moved = lifted column inside _ own.moved };
    };
    few = all.few;
    joined = all.joined;
    greatest = all.greatest;
  }

-- the count of its waveform lines is another
pub goes_counted : (old new : SymbolData) → GoesOn old new → (count : ℕ) → GoesOn old (record new { count = count })
goes_counted old new goes count = record {
  keeps = goes.keeps;
  names = goes.names;
  kept = goes.kept;
  saves = goes.saves;
  quiet = goes.quiet;
  text = goes.text;
}

-- ---- what they leave

-- the circuit and the clocks; and so many waveform lines were counted
pub record Leaves (old new : SessionData) (count : ℕ) : Type 0 where
  pub circuit : new.circuit ≡ old.circuit
  pub clocks : new.clocks ≡ old.clocks
  pub counts : new.count ≡ count

leaves_as : (old new mid : SessionData) → new ≡ mid → mid.circuit ≡ old.circuit → mid.clocks ≡ old.clocks → Leaves old new mid.count
leaves_as old new mid same circuit clocks = record {
  circuit = ap (λ (s : SessionData). s.circuit) same ∙ circuit;
  clocks = ap (λ (s : SessionData). s.clocks) same ∙ clocks;
  counts = ap (λ (s : SessionData). s.count) same;
}

module _ (columns : ℕ) (some : 0 < columns) (old new : ℕ → SessionData) where
  pub beat_leaves : (place : ℕ) → BeatInAll columns old new place → Leaves (old 0) (new 0) (old 0).count
  beat_leaves place put = leaves_as (old 0) (new 0) (with_beat (old 0) place) (put.each 0 some) refl refl

  pub step_leaves : StepInAll columns old new → Leaves (old 0) (new 0) (one_more (old 0).count)
  step_leaves steps = leaves_as (old 0) (new 0) _ (steps.each 0 some).moved refl refl

  pub stay_leaves : StaysInAll columns old new → Leaves (old 0) (new 0) (old 0).count
  stay_leaves stays = leaves_as (old 0) (new 0) (old 0) (stays.each 0 some) refl refl

  pub settled_leaves : (told : Settled) → SettledTogether columns old new told → Leaves (old 0) (new 0) (one_more (old 0).count)
  settled_leaves told all = leaves_as (old 0) (new 0) _ (all.settled.each 0 some).moved refl refl

  pub out_leaves : RanOut columns old new → Leaves (old 0) (new 0) (old 0).count
  out_leaves out = leaves_as (old 0) (new 0) (record (old 0) { state = (new 0).state }) (out.each 0 some) refl refl

-- so a session that goes on is one still
pub held_left : (old new : SymbolData) → IsSymbolSession old → GoesOn old new → (count : ℕ) →
    Leaves (column_of states_in old.session 0) (column_of states_in new.session 0) count → new.count ≡ count → IsSymbolSession new
held_left old new own goes count left is =
    held_on old new own goes (omega (arith, ap (λ (circuit : CircuitData). nodes circuit.graph) left.circuit)) (is ∙ sym left.counts)

-- so too where a waveform line more is counted
pub held_more : (old new : SymbolData) → IsSymbolSession old → GoesOn old new → (count : ℕ) → count ≡ one_more old.count →
    Leaves (column_of states_in old.session 0) (column_of states_in new.session 0) (one_more (column_of states_in old.session 0).count) →
    IsSymbolSession (record new { count = count })
held_more old new own goes count more left =
    held_left old (record new { count = count }) own (goes_counted old new goes count) (one_more (column_of states_in old.session 0).count) left
    (more ∙ ap one_more own.counted)

-- ---- the line

-- the rails of the watched nodes, which are told with it, are the maker's, and by them it is that of each column
module _ (d : SymbolData) (told : Settled) (count : ℕ → Settled) where
  abbrev own : Telling
  own = looking.wave_of d.session told

  module _ (are : AreRailsAt d.session.stage d.session.core.watched own.highs own.lows) where
    even : length own.lows ≡ length own.highs
    even = length-map d.session.core.watched (rail_of d.session.stage.machine.lo) ∙ sym (length-map d.session.core.watched (rail_of d.session.stage.machine.hi))

    abbrev states : ℕ → List Tern
    states column = map (state_at (states_in d.session.stage column)) d.session.core.watched

    there : (column : ℕ) → column < columns_in (maker_of d) → columns.states_in (function_holds (maker_of d)) column own.highs own.lows ≡ states column
    there column inside = states-has (function_holds (maker_of d)) column own.highs own.lows even (states column) (are.states column inside)

    columned : AreColumns (columns_in (maker_of d)) (function_holds (maker_of d)) own.highs own.lows
    columned = record {
      counted = even;
      each = λ column inside. subst (HasColumn (function_holds (maker_of d)) column own.highs own.lows) (sym (there column inside)) (are.states column inside);
    }

    pub wave_railed : AreRailed (maker_of d) (columns_in (maker_of d)) (waves_by (data_of d) count) (own ∷ [])
    wave_railed = record {
      rails = All-cons (λ (one : Telling). AreRailsOf (maker_of d) (rails_of one.highs one.lows)) own []
          (record { columns = columned; highs = are.own_highs; lows = are.own_lows }) (All-nil (λ (one : Telling). AreRailsOf (maker_of d) (rails_of one.highs one.lows)));
      waves = λ column inside. ap (λ (letters : List Tern). (d.session.core.count, letters) ∷ []) (there column inside);
    }

-- a line is heard as it is told
pub told_heard : {H A : Type 0} (hear : H → A → H) (part : H → A → H → Type 0) (before after : H) (lines : List A) (told : Result (Unit {0}) PortFault) →
    HearsSome hear part before after lines told → HearsSome hear part before after lines (heard_by told)
told_heard hear part before after lines (Ok done) heard = heard
told_heard hear part before after lines (Err fault) heard = heard

pub heard_stops : (told : Result (Unit {0}) PortFault) (number : ℕ) → IfErr (heard_by told) (StopsAt number)
heard_stops (Ok done) number = tt
heard_stops (Err fault) number = tt

pub heard_faults : (told : Result (Unit {0}) PortFault) (faults : ℕ) → faults_stopped faults (heard_by told) ≡ faults_after faults told
heard_faults (Ok done) faults = refl
heard_faults (Err port.Failed) faults = refl
heard_faults (Err port.NoMemory) faults = refl

pub heard_refusals : (told : Result (Unit {0}) PortFault) (before now : ℕ) → RefusedOnce before now told → RefusedStopped before now (heard_by told)
heard_refusals (Ok done) before now is = is
heard_refusals (Err port.Failed) before now is = is
heard_refusals (Err port.NoMemory) before now is = is

-- what holds where it was told holds where it was heard
pub on_heard : {P Q : Type 0} → (P → Q) → (told : Result (Unit {0}) PortFault) → OnOk told P → OnOk (heard_by told) Q
on_heard follows (Ok done) is = follows is
on_heard follows (Err fault) is = tt

-- ---- a step or a phase with its line, which the later maker's rails are told with

module _ {H E : Type 0} (old new : SymbolData) (keeps : KeepsFunctions (maker_of old) (maker_of new)) (hear : H → Telling → H) (part : H → Telling → H → Type 0)
    (before after : H) (told : Settled)
    (merged : (count : ℕ → Settled) → looking.AreCounted (columns_in (maker_of new)) count told →
    AreMerged (columns_in (maker_of new)) (waves_by (data_of new) count) ((looking.wave_of new.session told).line ∷ []))
    (result : Result (Unit {0}) E)
    (railed : (count : ℕ → Settled) → OnOk result
    (AreRailed (maker_of new) (columns_in (maker_of new)) (waves_by (data_of new) count) (looking.wave_of new.session told ∷ [])))
    (heard : HearsSome hear part before after (looking.wave_of new.session told ∷ []) result) where
  moved_told : (Done : Move) (count : ℕ → Settled) → looking.AreCounted (columns_in (maker_of old)) count told →
      ((column : ℕ) → column < columns_in (maker_of old) → Done (data_of old column) (data_of new column) (waves_by (data_of new) count column)) →
      MovesBy (maker_of new) hear part (columns_in (maker_of old)) Done (data_of old) (data_of new) before after result
  moved_told Done count counted each =
      waved (maker_of new) hear part (columns_in (maker_of old)) Done (data_of old) (data_of new) before after count told (looking.wave_of new.session told) counted each
      (subst (λ (n : ℕ). (own : ℕ → Settled) → looking.AreCounted n own told →
      AreMerged n (waves_by (data_of new) own) ((looking.wave_of new.session told).line ∷ [])) keeps.count merged)
      result
      (subst (λ (n : ℕ). (own : ℕ → Settled) → OnOk result (AreRailed (maker_of new) n (waves_by (data_of new) own) (looking.wave_of new.session told ∷ [])))
      keeps.count railed)
      heard

  pub phase_told : SettledTogether (columns_in (maker_of old)) (data_of old) (data_of new) told →
      MovesBy (maker_of new) hear part (columns_in (maker_of old)) IsPhase (data_of old) (data_of new) before after result
  phase_told all =
      moved_told IsPhase all.count (counted_together (columns_in (maker_of old)) (data_of old) (data_of new) told all)
      (settled_lines (columns_in (maker_of old)) (data_of old) (data_of new) told all)

  pub step_told : 0 < columns_in (maker_of old) → told ≡ one_step → StepInAll (columns_in (maker_of old)) (data_of old) (data_of new) →
      MovesBy (maker_of new) hear part (columns_in (maker_of old)) IsUnitStep (data_of old) (data_of new) before after result
  step_told some one steps =
      moved_told IsUnitStep (λ column. one_step)
      (subst (λ (own : Settled). looking.AreCounted (columns_in (maker_of old)) (λ column. one_step) own) (sym one)
      (counted_alike (columns_in (maker_of old)) some one_step))
      (stepped_lines (columns_in (maker_of old)) (data_of old) (data_of new) steps)

-- ---- one after the other

pub stays_both : (old mid new : SymbolData) → columns_in (maker_of mid) ≡ columns_in (maker_of old) → Stays old mid → Stays mid new → Stays old new
stays_both old mid new count first second = record {
  quiet = second.quiet ∙ first.quiet;
  text = second.text ∙ first.text;
  names = second.names ∙ first.names;
  truths = λ column inside. second.truths column (subst (λ (n : ℕ). column < n) (sym count) inside) ∙ first.truths column inside;
}
