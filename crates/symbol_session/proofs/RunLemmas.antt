-- The commands that have the circuit built, in all columns: the build, and then what moves.
use Rattle.std.proofs.Common.{◌≡◌, ℕ, ◌<◌, List, None, Some, Result, Ok, Err, inl, inr, refl, sym, ap, ap₂, subst, ◌∙◌}
use Rattle.std.specs.Prelude.{IfErr}
use Rattle.group_text.specs.Texts.{GroupTextData}
use Rattle.circuit_texts.specs.declared.texts.BuildFault.{BuildFault}
use Rattle.circuit_texts.specs.declared.texts.BuildFault.TheVariants as build
use Rattle.netlist.specs.Circuits.{CircuitData}
use Rattle.script_lang.specs.declared.command.Command.TheVariants as family
use Rattle.script_lang.specs.declared.command.Run.{Run}
use Rattle.script_lang.specs.declared.command.Run.TheVariants.{Step, Phase, Cycle, Report}
use Rattle.told_lines.specs.Lines.{Line}
use Rattle.told_lines.specs.Hearing.{hear_all, HearsFront}
use Rattle.session_meaning.specs.declared.fault.ApplyFault.{ApplyFault}
use Rattle.session_meaning.specs.declared.fault.ApplyFault.TheVariants as apply
use Rattle.session_meaning.specs.declared.fault.Refusal.{Refusal}
use Rattle.session_meaning.specs.Sessions.{ClockData, SessionData, places_of}
use Rattle.session_meaning.specs.Columns.{Cuts, column_of}
use Rattle.session_meaning.specs.Effects.{AreBeats, RunEffect, places_in}
use Rattle.session_meaning.specs.Outcomes.{Performs}
use Rattle.session_meaning.specs.Refusals.{refusal_of, refusal_of_run}
use Rattle.session_meaning.specs.Truths.{BuiltInAll, ReadiesInAll, TooLargeInAll}
use Rattle.script_meaning.specs.declared.turn.Turn.TheVariants.{Accepted, Refused, TooLarge}
use Rattle.script_meaning.specs.Codes.{refusal_code}
use Rattle.symbol_script.specs.declared.line.SymbolLine.TheVariants as asks
use Rattle.symbol_meaning.specs.Readings.{Valuations}
use Rattle.symbol_meaning.specs.Merging.{AreMerged}
use Rattle.symbol_told.specs.Lines.{Telling}
use Rattle.symbol_told.specs.Printing.{lines_told}
use Rattle.symbol_run.specs.declared.session.SymbolFault.{SymbolFault}
use Rattle.symbol_run.specs.Turns.{faults_stopped, RefusedStopped, StopsAt}
use Rattle.symbol_stage.specs.Stages.{columns_on, states_in}
use Rattle.truth_makers.specs.declared.symbols.Symbols.{Symbols}
use Rattle.truth_makers.specs.Makers.{columns_in}
use Rattle.symbol_equiv.specs.Waves.{AreRailed}
use Rattle.symbol_session.specs.Asked.{IsDoneInAll}
use Rattle.symbol_session.specs.Moves.{BeatsBegun, ReadiesBy, RunsBy}
use Rattle.symbol_session.specs.Sessions.{IsSymbolSession, SymbolData, data_of, maker_of}
use Rattle.symbol_session.specs.Turns.{BreaksAsked, TakesAsked, begun, cycling, turn_moved, turn_of, unheard, want}
use Rattle.symbol_session.proofs.DataLemmas.{GoesOn, data_on}
use Rattle.symbol_session.proofs.MovedLemmas.{beside}

-- ---- the build

module _ (cuts : Cuts) (old new : SymbolData) (own : IsSymbolSession old) (goes : GoesOn old new) (done known : List GroupTextData) where
  same_as : (column : ℕ) → column < columns_in (maker_of old) → column_of states_in new.session column ≡ column_of states_in old.session column →
      data_of new column ≡ data_of old column
  same_as column inside same = data_on old new own goes column inside ∙ ap (λ (s : SessionData). beside s (data_of old column)) same

  large_by : (fault : BuildFault) →
      TooLargeInAll (columns_on old.session.stage) (column_of states_in old.session) (column_of states_in new.session) done known fault →
      TooLargeInAll (columns_in (maker_of old)) (data_of old) (data_of new) done known fault
  large_by fault large = record {
    first = large.first;
    same = λ column inside. same_as column inside (large.same column inside);
    unasked = large.unasked;
  }

  -- the session's build is that of the script's columns
  pub readies_by : (ended : Result (Unit {0}) ApplyFault) →
      ReadiesInAll cuts (columns_on old.session.stage) (column_of states_in old.session) (column_of states_in new.session) done known ended →
      ReadiesBy (columns_in (maker_of old)) (data_of old) (data_of new) done known (turn_of ended)
  readies_by (Ok made) built = record {
    texts = built.texts;
    each = λ column inside.
        let build = built.each column inside in
        record {
          present = build.present;
          has = build.has;
          news = build.news;
          used = data_on old new own goes column inside ∙ ap (λ (s : SessionData). beside s (data_of old column)) build.used;
        };
    analysed = built.analysed;
  }
  readies_by (Err (apply.Refused refusal)) none = absurd none
  readies_by (Err (apply.GroupNodes node count)) large = large_by _ large
  readies_by (Err (apply.GroupSwitches node count)) large = large_by _ large
  readies_by (Err apply.WriteFault) none = absurd none
  readies_by (Err apply.NoMemory) cut = tt

-- memory alone runs out there
pub ready_memory : (cuts : Cuts) (columns : ℕ) (old new : ℕ → SessionData) (done known : List GroupTextData) (ended : Result (Unit {0}) ApplyFault) →
    ReadiesInAll cuts columns old new done known ended → IfErr (turn_of ended) (λ fault. fault ≡ want)
ready_memory cuts columns old new done known (Ok made) is = tt
ready_memory cuts columns old new done known (Err (apply.Refused refusal)) none = absurd none
ready_memory cuts columns old new done known (Err (apply.GroupNodes node count)) is = tt
ready_memory cuts columns old new done known (Err (apply.GroupSwitches node count)) is = tt
ready_memory cuts columns old new done known (Err apply.WriteFault) none = absurd none
ready_memory cuts columns old new done known (Err apply.NoMemory) is = refl

-- a build leaves the circuit, the clocks and the count
pub ready_leaves : (cuts : Cuts) (columns : ℕ) → 0 < columns → (old new : ℕ → SessionData) (done known : List GroupTextData) (ended : Result (Unit {0}) ApplyFault) →
    ReadiesInAll cuts columns old new done known ended →
    ((new 0).circuit ≡ (old 0).circuit) × ((new 0).count ≡ (old 0).count) × ((new 0).clocks ≡ (old 0).clocks)
ready_leaves cuts columns some old new done known (Ok made) built =
    let used = (built.each 0 some).used in
    (ap (λ (s : SessionData). s.circuit) used, ap (λ (s : SessionData). s.count) used, ap (λ (s : SessionData). s.clocks) used)
ready_leaves cuts columns some old new done known (Err (apply.Refused refusal)) none = absurd none
ready_leaves cuts columns some old new done known (Err (apply.GroupNodes node count)) large =
    let same = large.same 0 some in
    (ap (λ (s : SessionData). s.circuit) same, ap (λ (s : SessionData). s.count) same, ap (λ (s : SessionData). s.clocks) same)
ready_leaves cuts columns some old new done known (Err (apply.GroupSwitches node count)) large =
    let same = large.same 0 some in
    (ap (λ (s : SessionData). s.circuit) same, ap (λ (s : SessionData). s.count) same, ap (λ (s : SessionData). s.clocks) same)
ready_leaves cuts columns some old new done known (Err apply.WriteFault) none = absurd none
ready_leaves cuts columns some old new done known (Err apply.NoMemory) cut =
    let same = cut.core 0 some in
    (ap (λ (s : SessionData). s.circuit) same, ap (λ (s : SessionData). s.count) same, ap (λ (s : SessionData). s.clocks) same)

-- ---- the line

module _ {H : Type 0} (symbols : Symbols) (hear : H → Telling → H) (part : H → Telling → H → Type 0) (v : Valuations) (old mid new : ℕ → SessionData) (run : Run)
    (before after : H) (done known : List GroupTextData) (columns : ℕ) (count : columns ≡ v.columns) where
  within : (column : ℕ) → column < v.columns → column < columns
  within column inside = subst (λ (n : ℕ). column < n) (sym count) inside

  -- it is refused
  pub run_refused : (refusal : Refusal) → ((column : ℕ) → column < v.columns → refusal_of (old column) (family.Run run) ≡ Some refusal) →
      TakesAsked symbols hear part v old (asks.Plain (family.Run run)) old before before done done (Ok (Refused (refusal_code refusal)))
  run_refused refusal each = (
    record {
      refusal = refusal;
      coded = refl;
      each = λ column inside. record { own = family.Run run; asks = refl; refused = each column inside };
    },
    record { same = λ column inside. refl; unheard = refl; unasked = refl },
  )

  module _ (allowed : (column : ℕ) → column < v.columns → refusal_of (old column) (family.Run run) ≡ None) where
    too_large : (fault : BuildFault) → TooLargeInAll columns old mid done known fault →
        TakesAsked symbols hear part v old (asks.Plain (family.Run run)) mid before before done known (Ok (TooLarge fault))
    too_large fault large = (
      λ column inside. record {
        own = family.Run run;
        asks = refl;
        allowed = allowed column inside;
        building = refl;
        first = large.first column (within column inside);
      },
      record { same = λ column inside. large.same column (within column inside); unheard = refl; unasked = large.unasked },
    )

    -- it wasn't built
    pub run_unready : (fault : ApplyFault) → ReadiesBy columns old mid done known (turn_of (Err fault)) →
        TakesAsked symbols hear part v old (asks.Plain (family.Run run)) mid before before done known (turn_of (Err fault))
    run_unready (apply.Refused refusal) never = absurd never
    run_unready (apply.GroupNodes node count) large = too_large (build.GroupNodes node count) large
    run_unready (apply.GroupSwitches node count) large = too_large (build.GroupSwitches node count) large
    run_unready apply.WriteFault is = unheard refl
    run_unready apply.NoMemory is = unheard refl

    module _ (built : BuiltInAll columns old mid done known) where
      -- behind a build the circuit and the clocks are as before
      circuit_built : (column : ℕ) → column < columns → (mid column).circuit ≡ (old column).circuit
      circuit_built column inside = ap (λ (s : SessionData). s.circuit) (built.each column inside).used

      clocks_built : (column : ℕ) → column < columns → (mid column).clocks ≡ (old column).clocks
      clocks_built column inside = ap (λ (s : SessionData). s.clocks) (built.each column inside).used

      performs : (end : ℕ → SessionData) (lines : ℕ → List Line) → ((column : ℕ) → column < columns → RunEffect (mid column) run (end column) (lines column)) →
          (column : ℕ) → column < v.columns → Performs (old column) (family.Run run) (end column) (lines column) built.texts
      performs end lines each column inside =
          let is = within column inside in
          record {
            mid = mid column;
            prepares = built.each column is;
            does = record {
              allowed = ap₂ (λ (c : CircuitData) (clocks : List ClockData). refusal_of_run c clocks run) (circuit_built column is) (clocks_built column is)
                  ∙ allowed column inside;
              effect = each column is;
            };
          }

      done_in_all : (end : ℕ → SessionData) (told : List Telling) (lines : ℕ → List Line) →
          ((column : ℕ) → column < columns → RunEffect (mid column) run (end column) (lines column)) → AreMerged columns lines (lines_told told) →
          IsDoneInAll v old (asks.Plain (family.Run run)) end (lines_told told) built.texts
      done_in_all end told lines each merged = record {
        lines = lines;
        each = performs end lines each;
        merged = subst (λ (n : ℕ). AreMerged n lines (lines_told told)) count merged;
      }

      run_whole : (told : List Telling) (lines : ℕ → List Line) → ((column : ℕ) → column < columns → RunEffect (mid column) run (new column) (lines column)) →
          AreMerged columns lines (lines_told told) → AreRailed symbols columns lines told → after ≡ hear_all hear before told →
          TakesAsked symbols hear part v old (asks.Plain (family.Run run)) new before after done known (Ok Accepted)
      unfolding done_in_all
      run_whole told lines each merged railed heard = record {
        told = told;
        texts = built.texts;
        does = done_in_all new told lines each merged;
        railed = subst (λ (n : ℕ). AreRailed symbols n lines told) count railed;
        heard = heard;
        analysed = built.analysed;
      }

      run_part : (end : ℕ → SessionData) (told : List Telling) (lines : ℕ → List Line) →
          ((column : ℕ) → column < columns → RunEffect (mid column) run (end column) (lines column)) → AreMerged columns lines (lines_told told) →
          HearsFront hear part before after told → BreaksAsked hear part v old (asks.Plain (family.Run run)) before after
      run_part end told lines each merged heard =
          begun (record { end = end; told = told; texts = built.texts; does = done_in_all end told lines each merged; heard = heard })

-- what moves behind the build, with the clocks of a column
pub run_turn : {H T : Type 0} (symbols : Symbols) (hear : H → Telling → H) (part : H → Telling → H → Type 0) (v : Valuations) (old mid new : ℕ → SessionData) (run : Run)
    (before after : H) (done known : List GroupTextData) (columns : ℕ) (count : columns ≡ v.columns) (clocks : List ClockData) → 0 < columns →
    ((column : ℕ) → column < columns → (mid column).clocks ≡ clocks) →
    (allowed : (column : ℕ) → column < v.columns → refusal_of (old column) (family.Run run) ≡ None) → (built : BuiltInAll columns old mid done known) →
    (result : Result T SymbolFault) → RunsBy symbols hear part columns clocks run mid new before after result →
    TakesAsked symbols hear part v old (asks.Plain (family.Run run)) new before after done known (turn_moved result)
run_turn symbols hear part v old mid new Step before after done known columns count clocks some same allowed built (Ok moved) is =
    run_whole symbols hear part v old mid new Step before after done known columns count allowed built is.told is.moves.lines is.moves.each is.moves.merged is.railed is.heard
run_turn symbols hear part v old mid new Step before after done known columns count clocks some same allowed built (Err fault) (inl none) = unheard none
run_turn symbols hear part v old mid new Step before after done known columns count clocks some same allowed built (Err fault) (inr is) =
    run_part symbols hear part v old mid new Step before after done known columns count allowed built is.end is.told is.moves.lines is.moves.each is.moves.merged is.heard
run_turn symbols hear part v old mid new Phase before after done known columns count clocks some same allowed built (Ok moved) is =
    run_whole symbols hear part v old mid new Phase before after done known columns count allowed built is.told is.moves.lines is.moves.each is.moves.merged is.railed is.heard
run_turn symbols hear part v old mid new Phase before after done known columns count clocks some same allowed built (Err fault) (inl none) = unheard none
run_turn symbols hear part v old mid new Phase before after done known columns count clocks some same allowed built (Err fault) (inr is) =
    run_part symbols hear part v old mid new Phase before after done known columns count allowed built is.end is.told is.moves.lines is.moves.each is.moves.merged is.heard
run_turn symbols hear part v old mid new (Cycle times) before after done known columns count clocks some same allowed built (Ok moved) is =
    run_whole symbols hear part v old mid new (Cycle times) before after done known columns count allowed built is.told is.moves.lines
    (λ column inside.
    subst (λ (list : List ClockData). AreBeats (mid column) (places_in (places_of list) times) (new column) (is.moves.lines column)) (sym (same column inside))
    (is.moves.each column inside))
    is.moves.merged is.railed is.heard
run_turn symbols hear part v old mid new (Cycle times) before after done known columns count clocks some same allowed built (Err fault) is =
    let first : clocks ≡ (old 0).clocks = sym (same 0 some) ∙ ap (λ (s : SessionData). s.clocks) (built.each 0 some).used in
    cycling (record {
      times = times;
      asks_for = refl;
      allowed = allowed 0 (subst (λ (n : ℕ). 0 < n) count some);
      texts = built.texts;
      mid = mid;
      built = λ column inside. built.each column (subst (λ (n : ℕ). column < n) (sym count) inside);
      begun = subst (λ (n : ℕ). BeatsBegun hear part n (places_in (places_of (old 0).clocks) times) mid before after) count
          (subst (λ (list : List ClockData). BeatsBegun hear part columns (places_in (places_of list) times) mid before after) first is);
    })
run_turn symbols hear part v old mid new Report before after done known columns count clocks some same allowed built result never = absurd never

-- ---- the hearer's counts behind a command that moves

pub moved_stops : {T : Type 0} (number : ℕ) (result : Result T SymbolFault) → IfErr result (StopsAt number) → IfErr (turn_moved result) (StopsAt number)
moved_stops number (Ok moved) is = tt
moved_stops number (Err fault) is = is

pub moved_faults : {T : Type 0} (faults : ℕ) (result : Result T SymbolFault) → faults_stopped faults (turn_moved result) ≡ faults_stopped faults result
moved_faults faults (Ok moved) = refl
moved_faults faults (Err fault) = refl

pub moved_refusals : {T : Type 0} (before now : ℕ) (result : Result T SymbolFault) → RefusedStopped before now result →
    RefusedStopped before now (turn_moved result)
moved_refusals before now (Ok moved) is = is
moved_refusals before now (Err fault) is = is
