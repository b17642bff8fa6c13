-- The data of the columns of a symbolic script's session: they stay where the stage's functions are kept, and each column is ready, alike any other.
use Rattle.std.proofs.Common.{◌≡◌, ℕ, ◌<◌, ◌≤◌, Bool, List, [], ◌∷◌, length, map, drop, All, refl, sym, ap, ap₂, subst, ◌∙◌, arith}
use Rattle.std.proofs.lemmas.List.Elements.{All-cons, All-drop, All-head, All-nil, All-take}
use Rattle.std.proofs.lemmas.List.{length-take-le}
use Rattle.ternary.specs.declared.tern.Tern.{Tern}
use Rattle.switch_paths.specs.Rails.{IsSound}
use Rattle.switch_paths.specs.Graphs.{nodes}
use Rattle.column_stage.specs.Truths.{KeepsGiven}
use Rattle.decision_graph.specs.declared.vertex.Function.{Function}
use Rattle.truth_columns.specs.Columns.{values_in, HasColumn}
use Rattle.truth_columns.proofs.ColumnLemmas.{All-kept, values_in-kept, AreKept-same, AreKept-trans}
use Rattle.truth_makers.specs.declared.symbols.Symbols.{Symbols}
use Rattle.truth_makers.specs.Makers.{columns_in, function_holds, IsFunctionOf}
use Rattle.truth_parts.specs.Columns as columns
use Rattle.truth_parts.specs.Columns.{AreColumns, states_of}
use Rattle.truth_parts.proofs.ColumnLemmas.{length-states}
use Rattle.symbol_stage.specs.Given.{GivesLetters, letter_given}
use Rattle.symbol_stage.specs.Stages.{StageData, ServesIn, bound_in, columns_on, states_in}
use Rattle.symbol_stage.proofs.NameLemmas.{functions_given}
use Rattle.session_meaning.specs.Saves.{AreSaves, FitsSave}
use Rattle.session_meaning.specs.Sessions.{HeldSession, IsHeldSession}
use Rattle.session_meaning.specs.Columns.{column_of}
use Rattle.session_meaning.proofs.ColumnLemmas.{column_ready}
use Rattle.formula_functions.specs.Tables.{TableData}
use Rattle.symbol_meaning.specs.Readings.{Valuations}
use Rattle.symbol_outcomes.specs.Families.{IsFamily}
use Rattle.symbol_outcomes.proofs.AlikeLemmas.{alike_by}
use Rattle.symbol_equiv.specs.Sharing.{KeepsFunctions}
use Rattle.symbol_session.specs.Sessions.{AreKeptRails, HasTrue, IsSymbolSession, Save, Stays, SymbolData, data_of, highs_of, lows_of, maker_of, missed_by, rest_of, saves_by, states_kept, valuations_by}

-- ---- functions that are kept

-- a stage that keeps what can be given keeps all functions
pub keeps_by_given : (old new : StageData) → columns_on new ≡ columns_on old → KeepsGiven columns_on GivesLetters letter_given bound_in old new →
    HasTrue old.machine.maker → KeepsFunctions old.machine.maker new.machine.maker
keeps_by_given old new same keeps always = functions_given old new same keeps always.function always.inside always.holds

pub keeps_same : (symbols : Symbols) → KeepsFunctions symbols symbols
keeps_same symbols = AreKept-same (columns_in symbols) (IsFunctionOf symbols) (function_holds symbols)

pub keeps_both : (old mid new : Symbols) → KeepsFunctions old mid → KeepsFunctions mid new → KeepsFunctions old new
keeps_both old mid new first second =
    AreKept-trans (columns_in old) (columns_in mid) (columns_in new) (IsFunctionOf old) (IsFunctionOf mid) (IsFunctionOf new) (function_holds old)
    (function_holds mid) (function_holds new) first second

module _ (old new : Symbols) (keeps : KeepsFunctions old new) where
  pub all_kept : (functions : List Function) → All (IsFunctionOf old) functions → All (IsFunctionOf new) functions
  all_kept functions all =
      All-kept (columns_in old) (columns_in new) (IsFunctionOf old) (IsFunctionOf new) (function_holds old) (function_holds new) functions keeps all

  pub values_kept : (functions : List Function) → All (IsFunctionOf old) functions → (column : ℕ) → column < columns_in old →
      values_in (function_holds new) column functions ≡ values_in (function_holds old) column functions
  values_kept functions all column inside =
      values_in-kept (columns_in old) (columns_in new) (IsFunctionOf old) (IsFunctionOf new) (function_holds old) (function_holds new) column functions keeps all
      inside

  -- whether an expectation wasn't met in a column
  pub missed_kept : (kept : List Function) → All (IsFunctionOf old) kept → (column : ℕ) → column < columns_in old → missed_by new kept column ≡ missed_by old kept column
  missed_kept [] all column inside = refl
  missed_kept (own ∷ others) all column inside = keeps.stays own column (All-head (IsFunctionOf old) own others all) inside

  -- the states that are kept
  pub kept_states : (n : ℕ) (rails : List Function) → All (IsFunctionOf old) rails → (column : ℕ) → column < columns_in old →
      states_kept new n rails column ≡ states_kept old n rails column
  kept_states n rails all column inside =
      ap₂ states_of (values_kept (highs_of n rails) (All-take (IsFunctionOf old) n rails all) column inside)
      (values_kept (lows_of n rails) (All-take (IsFunctionOf old) n (drop n rails) (All-drop (IsFunctionOf old) n rails all)) column inside)

  rest_inside : (n : ℕ) (rails : List Function) → All (IsFunctionOf old) rails → All (IsFunctionOf old) (rest_of n rails)
  rest_inside n rails all = All-drop (IsFunctionOf old) n (drop n rails) (All-drop (IsFunctionOf old) n rails all)

  pub saves_kept : (saves : List Save) (rails : List Function) → All (IsFunctionOf old) rails → (column : ℕ) → column < columns_in old →
      saves_by new saves rails column ≡ saves_by old saves rails column
  saves_kept [] rails all column inside = refl
  saves_kept (own ∷ saves) rails all column inside =
      ap₂ (λ (states : List Tern) (others : List (List ℕ × List Tern)). (own.0, states) ∷ others)
      (kept_states own.1 rails all column inside) (saves_kept saves (rest_of own.1 rails) (rest_inside own.1 rails all) column inside)

  -- rails of states are so still, of as many nodes or more
  pub has_kept : (hi lo : List Function) → All (IsFunctionOf old) hi → All (IsFunctionOf old) lo → AreColumns (columns_in old) (function_holds old) hi lo →
      AreColumns (columns_in new) (function_holds new) hi lo
  has_kept hi lo highs lows are = record {
    counted = are.counted;
    each = λ column within.
        let inside : column < columns_in old = subst (λ (n : ℕ). column < n) keeps.count within in
        let same_high = values_kept hi highs column inside in
        let same_low = values_kept lo lows column inside in
        let same : columns.states_in (function_holds new) column hi lo ≡ columns.states_in (function_holds old) column hi lo = ap₂ states_of same_high same_low in
        subst (λ (states : List Tern). HasColumn (function_holds new) column hi lo states) (sym same)
        (record { ones = same_high ∙ (are.each column inside).ones; zeros = same_low ∙ (are.each column inside).zeros });
  }

  pub rails_kept : (count later : ℕ) → count ≤ later → (saves : List Save) (rails : List Function) → All (IsFunctionOf old) rails →
      AreKeptRails old count saves rails → AreKeptRails new later saves rails
  rails_kept count later more [] rails all are = are
  rails_kept count later more (own ∷ saves) rails all (here, rest) = (
    record {
      few = omega (arith, here.few, more);
      railed = here.railed;
      counted = here.counted;
      rails = has_kept (highs_of own.1 rails) (lows_of own.1 rails) (All-take (IsFunctionOf old) own.1 rails all)
          (All-take (IsFunctionOf old) own.1 (drop own.1 rails) (All-drop (IsFunctionOf old) own.1 rails all)) here.rails;
      sound = λ column within.
          let inside : column < columns_in old = subst (λ (n : ℕ). column < n) keeps.count within in
          subst IsSound (sym (kept_states own.1 rails all column inside)) (here.sound column inside);
    },
    rails_kept count later more saves (rest_of own.1 rails) (rest_inside own.1 rails all) rest,
  )

-- ---- a session that goes on

-- the columns are those of the valuations
pub inside_columns : (d : SymbolData) → IsSymbolSession d → (column : ℕ) → column < (valuations_by d).columns → column < columns_in (maker_of d)
inside_columns d is column inside = subst (λ (n : ℕ). column < n) (sym is.shape) inside

pub inside_valuations : (d : SymbolData) → IsSymbolSession d → (column : ℕ) → column < columns_in (maker_of d) → column < (valuations_by d).columns
inside_valuations d is column inside = subst (λ (n : ℕ). column < n) is.shape inside

-- what is the same stays
pub stays_same : (d : SymbolData) → Stays d d
stays_same d = record { quiet = refl; text = refl; names = refl; truths = λ column inside. refl }

-- what lives where functions are kept and all but the session is as before
pub record GoesOn (old new : SymbolData) : Type 0 where
  pub keeps : KeepsFunctions (maker_of old) (maker_of new)
  pub names : new.names ≡ old.names
  pub kept : new.kept ≡ old.kept
  pub saves : new.saves ≡ old.saves
  pub quiet : new.quiet ≡ old.quiet
  pub text : new.text ≡ old.text

-- so where its stage keeps what can be given
pub goes_by : (old : SymbolData) (session : HeldSession StageData) → columns_on session.stage ≡ columns_on old.session.stage →
    KeepsGiven columns_on GivesLetters letter_given bound_in old.session.stage session.stage → HasTrue (maker_of old) → GoesOn old (record old { session = session })
goes_by old session same keeps always = record {
  keeps = keeps_by_given old.session.stage session.stage same keeps always;
  names = refl;
  kept = refl;
  saves = refl;
  quiet = refl;
  text = refl;
}

-- so too where these are the data of a session, seen from outside
pub went : (d old : SymbolData) → old ≡ d → (session : HeldSession StageData) → columns_on session.stage ≡ columns_on old.session.stage →
    KeepsGiven columns_on GivesLetters letter_given bound_in old.session.stage session.stage → HasTrue (maker_of d) → GoesOn old (record old { session = session })
went d old same session columns kept always = goes_by old session columns kept (subst (λ (was : SymbolData). HasTrue (maker_of was)) (sym same) always)

-- a session has a column
pub some_columns : (d old : SymbolData) → old ≡ d → IsHeldSession columns_on states_in ServesIn d.session → 0 < columns_on old.session.stage
some_columns d old same held = subst (λ (was : SymbolData). 0 < columns_on was.session.stage) (sym same) (omega (arith, held.some))

-- or its stage is the same
pub goes_same : (old : SymbolData) (session : HeldSession StageData) → session.stage ≡ old.session.stage → GoesOn old (record old { session = session })
goes_same old session same = record {
  keeps = subst (λ (stage : StageData). KeepsFunctions (maker_of old) stage.machine.maker) (sym same) (keeps_same (maker_of old));
  names = refl;
  kept = refl;
  saves = refl;
  quiet = refl;
  text = refl;
}

module _ (old new : SymbolData) (own : IsSymbolSession old) (goes : GoesOn old new) where
  pub stays_on : Stays old new
  stays_on = record {
    quiet = goes.quiet;
    text = goes.text;
    names = ap (λ (table : TableData). table.names) goes.names;
    truths = λ column inside.
        ap (λ (table : TableData). values_in (function_holds (maker_of new)) column table.functions) goes.names
        ∙ values_kept (maker_of old) (maker_of new) goes.keeps old.names.functions own.named column inside;
  }

  valuations_on : valuations_by new ≡ valuations_by old
  valuations_on =
      ap (λ (quiet : Bool). valuations_by (record new { quiet = quiet })) goes.quiet
      ∙ ap (λ (text : List ℕ). valuations_by (record new { quiet = old.quiet; text = text })) goes.text

  -- it is a session still, if no node was lost and the waveform lines are counted
  pub held_on : nodes old.session.core.circuit.graph ≤ nodes new.session.core.circuit.graph → new.count ≡ new.session.core.count → IsSymbolSession new
  held_on more counted = record {
    shape = goes.keeps.count ∙ own.shape ∙ ap (λ (v : Valuations). v.columns) (sym valuations_on);
    named = rw goes.names (all_kept (maker_of old) (maker_of new) goes.keeps old.names.functions own.named);
    inside = rw goes.kept (all_kept (maker_of old) (maker_of new) goes.keeps old.kept own.inside);
    missed = rw goes.kept own.missed;
    counted = counted;
    saved = rw (goes.saves, goes.kept)
        (rails_kept (maker_of old) (maker_of new) goes.keeps (nodes old.session.core.circuit.graph) (nodes new.session.core.circuit.graph) more
        old.saves (drop 1 old.kept) (All-drop (IsFunctionOf (maker_of old)) 1 old.kept own.inside) own.saved);
  }

  -- the data of a column are what its session's column is, beside what was missed and kept
  pub data_on : (column : ℕ) → column < columns_in (maker_of old) →
      data_of new column ≡ record (column_of states_in new.session column) { missed = (data_of old column).missed; saves = (data_of old column).saves }
  data_on column inside =
      ap₂ (λ (missed : Bool) (saves : List (List ℕ × List Tern)). record (column_of states_in new.session column) { missed = missed; saves = saves })
      (ap (λ (kept : List Function). missed_by (maker_of new) kept column) goes.kept
      ∙ missed_kept (maker_of old) (maker_of new) goes.keeps old.kept own.inside column inside)
      (ap₂ (λ (saves : List Save) (kept : List Function). saves_by (maker_of new) saves (drop 1 kept) column) goes.saves goes.kept
      ∙ saves_kept (maker_of old) (maker_of new) goes.keeps old.saves (drop 1 old.kept) (All-drop (IsFunctionOf (maker_of old)) 1 old.kept own.inside) column inside)

-- ---- columns that are ready

-- what is kept fits in each column
pub saves_fit : (symbols : Symbols) (count : ℕ) (saves : List Save) (rails : List Function) → AreKeptRails symbols count saves rails → (column : ℕ) →
    column < columns_in symbols → AreSaves count (saves_by symbols saves rails column)
saves_fit symbols count [] rails are column inside = All-nil (λ (save : List ℕ × List Tern). FitsSave count save.1)
saves_fit symbols count (own ∷ saves) rails (here, rest) column inside =
    let high : length (highs_of own.1 rails) ≡ own.1 = length-take-le own.1 rails (omega (arith, here.counted)) in
    let long : length (states_kept symbols own.1 rails column) ≡ own.1 =
    length-states (function_holds symbols) column (highs_of own.1 rails) (lows_of own.1 rails) here.rails.counted ∙ high in
    All-cons (λ (save : List ℕ × List Tern). FitsSave count save.1) (own.0, states_kept symbols own.1 rails column) (saves_by symbols saves (rest_of own.1 rails) column)
    (record {
      few = omega (arith, long, here.few);
      railed = omega (arith, long, here.railed);
      sound = here.sound column inside;
    })
    (saves_fit symbols count saves (rest_of own.1 rails) rest column inside)

-- the columns of a session are one family
pub family_of : (d : SymbolData) → IsSymbolSession d → IsHeldSession columns_on states_in ServesIn d.session → IsFamily (valuations_by d).columns (data_of d)
family_of d own held = record {
  some = subst (λ (n : ℕ). 0 < n) own.shape (omega (arith, held.some));
  ready = λ column inside.
      let within = inside_columns d own column inside in
      let ready = column_ready columns_on states_in ServesIn d.session held column within in
      record {
        netlist = ready.netlist;
        states = ready.states;
        sound = ready.sound;
        free = ready.free;
        saved = saves_fit (maker_of d) (nodes d.session.core.circuit.graph) d.saves (drop 1 d.kept) own.saved column within;
      };
  alike = λ one other first second.
      alike_by refl refl refl refl refl refl (names_alike (maker_of d) d.saves (drop 1 d.kept) one other) refl refl refl refl;
}
  where
    names_alike : (symbols : Symbols) (saves : List Save) (rails : List Function) (one other : ℕ) →
        map (λ (save : List ℕ × List Tern). save.0) (saves_by symbols saves rails other) ≡ map (λ (save : List ℕ × List Tern). save.0) (saves_by symbols saves rails one)
    names_alike symbols [] rails one other = refl
    names_alike symbols (own ∷ saves) rails one other = ap (λ (names : List (List ℕ)). own.0 ∷ names) (names_alike symbols saves (rest_of own.1 rails) one other)
