-- The rails of all nodes of a session, and a session that keeps them under a name: it is one still, and in each column the present states are kept.
use Rattle.std.proofs.Common.{◌≡◌, ℕ, ◌+◌, ◌-◌, ◌<◌, ◌≤◌, Bool, true, false, not, cond, List, [], ◌∷◌, ◌++◌, length, map, take, drop, All, nat_le, None, Some, refl, sym, ap, ap₂, subst, ◌∙◌, arith, length-append, if◌then◌else◌}
use Rattle.std.proofs.lemmas.Bool.Decides.{nat_tests}
use Rattle.std.proofs.lemmas.List.Sums.{sum_by-cons}
use Rattle.std.proofs.lemmas.List.{length-drop, map-append, map_more, take_all}
use Rattle.std.proofs.lemmas.List.Elements.{All-append, All-drop, All-push, All-take}
use Rattle.ternary.specs.declared.tern.Tern.{Tern}
use Rattle.ternary.specs.declared.tern.Tern.TheVariants.{Zero}
use Rattle.ternary.specs.Tern.{may_one, may_zero}
use Rattle.switch_paths.specs.Graphs.{nodes}
use Rattle.switch_paths.specs.Rails.{IsSound}
use Rattle.switch_paths.specs.Switching.{state_at}
use Rattle.decision_graph.specs.declared.vertex.Function.{Function}
use Rattle.formula_functions.specs.Tables.{TableData, values_under}
use Rattle.truth_columns.specs.Columns.{values_in, HasColumn}
use Rattle.truth_makers.specs.declared.symbols.Symbols.{Symbols}
use Rattle.truth_makers.specs.Makers.{columns_in, function_holds, IsFunctionOf}
use Rattle.truth_makers.specs.Valuations.{valuation_of}
use Rattle.truth_parts.specs.Columns as truth
use Rattle.truth_parts.proofs.ColumnLemmas.{states-has}
use Rattle.script_lang.specs.declared.command.Command.TheVariants as family
use Rattle.script_lang.specs.declared.command.Setup.TheVariants as setup
use Rattle.session_meaning.specs.declared.TheConstants.{MOST_SAVES}
use Rattle.session_meaning.specs.declared.fault.Refusal.TheVariants.{TooManySaves}
use Rattle.session_meaning.specs.Saves as plain
use Rattle.session_meaning.specs.Saves.{with_save}
use Rattle.session_meaning.specs.Sessions.{HeldSession, IsHeldSession}
use Rattle.session_meaning.specs.Columns.{column_of}
use Rattle.session_meaning.specs.Outcomes.{Does}
use Rattle.session_meaning.specs.Refusals.{refusal_of}
use Rattle.session_meaning.proofs.SaveLemmas.{fits-present}
use Rattle.symbol_stage.specs.Stages.{StageData, ServesIn, columns_on, states_in}
use Rattle.symbol_equiv.specs.Sharing.{KeepsFunctions}
use Rattle.symbol_session.specs.Sessions.{AreKeptRails, IsKept, IsSymbolSession, Save, Stays, SymbolData, data_of, maker_of, missed_by, rest_of, saves_by, states_kept}
use Rattle.symbol_session.specs.Keeping.{AreRailsTo, HasNodes, KeepsStates, before_save, is_named, kept_by, nodes_under, other_saves, with_name, with_rails}
use Rattle.symbol_session.proofs.DataLemmas.{keeps_same}
use Rattle.symbol_session.proofs.SaveLemmas.{IsPut, kept_put, rails_saved, saves_saved, with_first}

-- ---- the rails of all nodes

-- two lists of rails have no fewer functions than states
few_highs : {A : Type 0} (holds : A → ℕ → Bool) (column : ℕ) (hi lo : List A) → length (truth.states_in holds column hi lo) ≤ length hi
few_highs holds column [] lo = omega arith
few_highs holds column (high ∷ hi) [] = omega arith
few_highs holds column (high ∷ hi) (low ∷ lo) = omega (arith, few_highs holds column hi lo)

-- a session's stage has both for each of its nodes
pub has_nodes : (session : HeldSession StageData) → IsHeldSession columns_on states_in ServesIn session → HasNodes session.stage (nodes session.core.circuit.graph)
has_nodes session held =
    let first : length (states_in session.stage 0) ≡ nodes session.core.circuit.graph = (held.sound 0 (omega (arith, held.some))).counted in
    record {
      highs = omega (arith, first, few_highs (function_holds session.stage.machine.maker) 0 session.stage.machine.hi session.stage.machine.lo);
      states = λ column inside. (held.sound column inside).counted;
    }

module _ (stage : StageData) (n : ℕ) (has : HasNodes stage n) (k : ℕ) (within : k < n) where
  -- the values of one rail more in a column
  values_more : (value : Tern → Bool) (column : ℕ) → column < columns_on stage → (rails more : List Function) (rail : Function) → more ≡ rails ++ rail ∷ [] →
      values_in (function_holds stage.machine.maker) column rails ≡ map value (take k (states_in stage column)) →
      function_holds stage.machine.maker rail column ≡ value (state_at (states_in stage column) k) →
      values_in (function_holds stage.machine.maker) column more ≡ map value (take (k + 1) (states_in stage column))
  values_more value column inside rails more rail is before here =
      let holds = λ (f : Function). function_holds stage.machine.maker f column in
      let states = states_in stage column in
      let count : length states ≡ n = has.states column inside in
      ap (map holds) is ∙ map-append holds rails (rail ∷ []) ∙ ap (λ (values : List Bool). values ++ holds rail ∷ []) before
      ∙ ap (λ (own : Bool). map value (take k states) ++ own ∷ []) here
      ∙ sym (map_more value states k Zero (omega (arith, within, count)))

  -- the rails of one node more
  pub rails_more : (highs lows more_highs more_lows : List Function) (high low : Function) → more_highs ≡ highs ++ high ∷ [] →
      more_lows ≡ lows ++ low ∷ [] → IsFunctionOf stage.machine.maker high → IsFunctionOf stage.machine.maker low →
      ((column : ℕ) → column < columns_on stage → function_holds stage.machine.maker high column ≡ may_one (state_at (states_in stage column) k)) →
      ((column : ℕ) → column < columns_on stage → function_holds stage.machine.maker low column ≡ may_zero (state_at (states_in stage column) k)) →
      AreRailsTo stage k highs lows → AreRailsTo stage (k + 1) more_highs more_lows
  rails_more highs lows more_highs more_lows high low high_is low_is high_own low_own ones zeros before = record {
    high_count = omega (arith, ap (λ (list : List Function). length list) high_is, length-append highs (high ∷ []), before.high_count);
    low_count = omega (arith, ap (λ (list : List Function). length list) low_is, length-append lows (low ∷ []), before.low_count);
    own_highs = subst (All (IsFunctionOf stage.machine.maker)) (sym high_is) (All-push (IsFunctionOf stage.machine.maker) highs high before.own_highs high_own);
    own_lows = subst (All (IsFunctionOf stage.machine.maker)) (sym low_is) (All-push (IsFunctionOf stage.machine.maker) lows low before.own_lows low_own);
    states = λ column inside. record {
      ones = values_more may_one column inside highs more_highs high high_is (before.states column inside).ones (ones column inside);
      zeros = values_more may_zero column inside lows more_lows low low_is (before.states column inside).zeros (zeros column inside);
    };
  }

-- ---- a session that keeps them

module _ (d : SymbolData) (held : IsHeldSession columns_on states_in ServesIn d.session) (highs lows : List Function)
    (rails : AreRailsTo d.session.stage (nodes d.session.core.circuit.graph) highs lows) where
  -- in each column they hold as its states say
  has_states : (column : ℕ) → column < columns_in (maker_of d) → HasColumn (function_holds (maker_of d)) column highs lows (states_in d.session.stage column)
  has_states column inside =
      let count : length (states_in d.session.stage column) ≡ nodes d.session.core.circuit.graph = (held.sound column inside).counted in
      subst (λ (states : List Tern). HasColumn (function_holds (maker_of d)) column highs lows states)
      (take_all (nodes d.session.core.circuit.graph) (states_in d.session.stage column) (omega (arith, count))) (rails.states column inside)

  -- so their states are these
  pub states_are : (column : ℕ) → column < columns_in (maker_of d) →
      truth.states_in (function_holds (maker_of d)) column highs lows ≡ states_in d.session.stage column
  states_are column inside =
      states-has (function_holds (maker_of d)) column highs lows (omega (arith, rails.high_count, rails.low_count)) (states_in d.session.stage column) (has_states column inside)

  pub are_put : IsPut (nodes d.session.core.circuit.graph) highs lows
  are_put = record { high = rails.high_count; low = rails.low_count }

  -- and they are rails that may be kept, whatever is behind them
  own_rails : (more : List Function) → IsKept (maker_of d) (nodes d.session.core.circuit.graph) (nodes d.session.core.circuit.graph) (highs ++ (lows ++ more))
  own_rails more =
      let n = nodes d.session.core.circuit.graph in
      let fits = fits-present d.session.core held.core.ready in
      let count : length d.session.core.state ≡ n = held.core.ready.states in
      kept_put (maker_of d) n n highs lows are_put (omega arith) (omega (arith, fits.railed, count))
      (record {
        counted = omega (arith, rails.high_count, rails.low_count);
        each = λ column inside.
            subst (λ (states : List Tern). HasColumn (function_holds (maker_of d)) column highs lows states) (sym (states_are column inside)) (has_states column inside);
      })
      (λ column inside. subst IsSound (sym (states_are column inside)) (held.sound column inside).sound) more

-- all but the first function of what is kept, behind a save
with_others : (kept : List Function) → 0 < length kept → (place old : ℕ) (highs lows : List Function) →
    drop 1 (with_rails kept (1 + place) old highs lows) ≡ with_rails (drop 1 kept) place old highs lows
with_others [] some place old highs lows = absurd (omega (arith, some))
with_others (own ∷ others) some place old highs lows = ap (λ (list : List Function). drop 1 list) (with_first own others place old highs lows)

same_missed : (symbols : Symbols) (kept : List Function) → 0 < length kept → (place old : ℕ) (highs lows : List Function) (column : ℕ) →
    missed_by symbols (with_rails kept (1 + place) old highs lows) column ≡ missed_by symbols kept column
same_missed symbols [] some place old highs lows column = absurd (omega (arith, some))
same_missed symbols (own ∷ others) some place old highs lows column =
    ap (λ (list : List Function). missed_by symbols list column) (with_first own others place old highs lows)

-- how many functions are kept in all
pub kept_count : (symbols : Symbols) (count : ℕ) (saves : List Save) (rails : List Function) → AreKeptRails symbols count saves rails → kept_by saves ≡ length rails
kept_count symbols count [] rails none = sym (ap (λ (list : List Function). length list) none)
kept_count symbols count (own ∷ saves) rails (here, rest) =
    omega (
      arith,
      here.counted,
      length-rest own.1 rails here.counted,
      kept_count symbols count saves (rest_of own.1 rails) rest,
    )
  where
    length-rest : (n : ℕ) (list : List Function) → n + n ≤ length list → (n + n) + length (rest_of n list) ≡ length list
    length-rest n list long =
        let first : length (drop n list) ≡ length list - n = length-drop n list in
        let second : length (drop n (drop n list)) ≡ length (drop n list) - n = length-drop n (drop n list) in
        omega (arith, first, second, long)

pub all_count : (d : SymbolData) → IsSymbolSession d → kept_by d.saves + 1 ≡ length d.kept
all_count d own =
    let count = kept_count (maker_of d) (nodes d.session.core.circuit.graph) d.saves (drop 1 d.kept) own.saved in
    by d.kept own.missed count
  where
    by : (kept : List Function) → 0 < length kept → kept_by d.saves ≡ length (drop 1 kept) → kept_by d.saves + 1 ≡ length kept
    by [] some is = absurd (omega (arith, some))
    by (one ∷ others) some is = omega (arith, is)

-- what is kept then
pub keeps_states : (d : SymbolData) (name : List ℕ) (highs lows : List Function) → AreRailsTo d.session.stage (nodes d.session.core.circuit.graph) highs lows →
    (saves : List Save) (kept : List Function) → saves ≡ with_name d.saves name (length highs) →
    kept ≡ with_rails d.kept (1 + kept_by (before_save d.saves name)) (nodes_under d.saves name) highs lows → KeepsStates d name (record d { saves = saves; kept = kept })
keeps_states d name highs lows rails saves kept named stands = record {
  highs = highs;
  lows = lows;
  rails = rails;
  session = refl;
  names = refl;
  saves = named ∙ ap (λ (n : ℕ). with_name d.saves name n) rails.high_count;
  kept = stands;
  count = refl;
  quiet = refl;
  text = refl;
}

-- it is a session still
pub held_saved : (d : SymbolData) → IsSymbolSession d → IsHeldSession columns_on states_in ServesIn d.session → (name : List ℕ) (highs lows : List Function) →
    AreRailsTo d.session.stage (nodes d.session.core.circuit.graph) highs lows → (saves : List Save) (kept : List Function) → saves ≡ with_name d.saves name (length highs) →
    kept ≡ with_rails d.kept (1 + kept_by (before_save d.saves name)) (nodes_under d.saves name) highs lows → IsSymbolSession (record d { saves = saves; kept = kept })
held_saved d own held name highs lows rails saves kept named stands =
    let n = nodes d.session.core.circuit.graph in
    let has = IsFunctionOf (maker_of d) in
    let place = kept_by (before_save d.saves name) in
    let old = nodes_under d.saves name in
    let all : All has (with_rails d.kept (1 + place) old highs lows) =
    All-append has (take (1 + place) d.kept) (highs ++ (lows ++ drop ((1 + place) + (old + old)) d.kept)) (All-take has (1 + place) d.kept own.inside)
    (All-append has highs (lows ++ drop ((1 + place) + (old + old)) d.kept) rails.own_highs
    (All-append has lows (drop ((1 + place) + (old + old)) d.kept) rails.own_lows (All-drop has ((1 + place) + (old + old)) d.kept own.inside))) in
    let saved : AreKeptRails (maker_of d) n (with_name d.saves name n) (with_rails (drop 1 d.kept) place old highs lows) =
    rails_saved (maker_of d) n name n highs lows (are_put d held highs lows rails) (own_rails d held highs lows rails) d.saves (drop 1 d.kept) own.saved in
    let same : saves ≡ with_name d.saves name n = named ∙ ap (λ (m : ℕ). with_name d.saves name m) rails.high_count in
    record {
      shape = own.shape;
      named = own.named;
      inside = subst (All has) (sym stands) all;
      missed = subst (λ (list : List Function). 0 < length list) (sym stands) (some_still d.kept own.missed place old highs lows);
      counted = own.counted;
      saved = subst (λ (list : List Save). AreKeptRails (maker_of d) n list (drop 1 kept)) (sym same)
          (subst (λ (list : List Function). AreKeptRails (maker_of d) n (with_name d.saves name n) (drop 1 list)) (sym stands)
          (subst (AreKeptRails (maker_of d) n (with_name d.saves name n)) (sym (with_others d.kept own.missed place old highs lows)) saved));
    }
  where
    some_still : (list : List Function) → 0 < length list → (place old : ℕ) (highs lows : List Function) → 0 < length (with_rails list (1 + place) old highs lows)
    some_still [] some place old highs lows = absurd (omega (arith, some))
    some_still (one ∷ others) some place old highs lows =
        subst (λ (list : List Function). 0 < length list) (sym (with_first one others place old highs lows)) (omega arith)

-- ---- in each column

-- as many other names keep states there
others_same : (symbols : Symbols) (saves : List Save) (rails : List Function) (column : ℕ) (name : List ℕ) →
    plain.other_saves (saves_by symbols saves rails column) name ≡ other_saves saves name
others_same symbols [] rails column name = refl
others_same symbols (own ∷ saves) rails column name =
    let test = λ (save : List ℕ × List Tern). cond (not (plain.is_under name save)) 1 0 in
    let own_test = λ (save : Save). cond (not (is_named name save)) 1 0 in
    sum_by-cons test (own.0, states_kept symbols own.1 rails column) (saves_by symbols saves (rest_of own.1 rails) column)
    ∙ ap (λ (n : ℕ). own_test own + n) (others_same symbols saves (rest_of own.1 rails) column name) ∙ sym (sum_by-cons own_test own saves)

many_yes : (most count : ℕ) → most ≤ count → nat_le most count ≡ true
many_yes most count many = grind (arith, nat_tests)

many_no : (most count : ℕ) → count < most → nat_le most count ≡ false
many_no most count few = grind (arith, nat_tests)

-- so it is refused if there are too many
pub save_refused : (d : SymbolData) (name : List ℕ) → MOST_SAVES ≤ other_saves d.saves name → (column : ℕ) →
    refusal_of (data_of d column) (family.Setup (setup.Save name)) ≡ Some TooManySaves
save_refused d name many column =
    ap (λ (count : ℕ). if nat_le MOST_SAVES count then Some TooManySaves else None) (others_same (maker_of d) d.saves (drop 1 d.kept) column name)
    ∙ ap (λ (test : Bool). if test then Some TooManySaves else None) (many_yes MOST_SAVES (other_saves d.saves name) many)

pub save_allowed : (d : SymbolData) (name : List ℕ) → other_saves d.saves name < MOST_SAVES → (column : ℕ) →
    refusal_of (data_of d column) (family.Setup (setup.Save name)) ≡ None
save_allowed d name few column =
    ap (λ (count : ℕ). if nat_le MOST_SAVES count then Some TooManySaves else None) (others_same (maker_of d) d.saves (drop 1 d.kept) column name)
    ∙ ap (λ (test : Bool). if test then Some TooManySaves else None) (many_no MOST_SAVES (other_saves d.saves name) few)

-- the data of a column then
pub data_saved : (old new : SymbolData) (name : List ℕ) → IsSymbolSession old → IsHeldSession columns_on states_in ServesIn old.session → KeepsStates old name new →
    (column : ℕ) → column < columns_in (maker_of old) →
    data_of new column ≡ record (data_of old column) { saves = with_save (data_of old column).saves name (data_of old column).state }
data_saved old new name own held keeps column inside =
    let n = nodes old.session.core.circuit.graph in
    let place = kept_by (before_save old.saves name) in
    let under = nodes_under old.saves name in
    let symbols = maker_of old in
    let missed : missed_by (maker_of new) new.kept column ≡ missed_by symbols old.kept column =
    ap₂ (λ (session : HeldSession StageData) (kept : List Function). missed_by session.stage.machine.maker kept column) keeps.session keeps.kept
    ∙ same_missed symbols old.kept own.missed place under keeps.highs keeps.lows column in
    let rails : drop 1 new.kept ≡ with_rails (drop 1 old.kept) place under keeps.highs keeps.lows =
    ap (λ (list : List Function). drop 1 list) keeps.kept ∙ with_others old.kept own.missed place under keeps.highs keeps.lows in
    let saves : saves_by (maker_of new) new.saves (drop 1 new.kept) column ≡ with_save (data_of old column).saves name (data_of old column).state =
    ap (λ (session : HeldSession StageData). saves_by session.stage.machine.maker new.saves (drop 1 new.kept) column) keeps.session
    ∙ ap₂ (λ (list : List Save) (kept : List Function). saves_by symbols list kept column) keeps.saves rails
    ∙ saves_saved symbols n name n keeps.highs keeps.lows (are_put old held keeps.highs keeps.lows keeps.rails) column old.saves (drop 1 old.kept) own.saved
    ∙ ap (λ (states : List Tern). with_save (data_of old column).saves name states) (states_are old held keeps.highs keeps.lows keeps.rails column inside) in
    ap (λ (session : HeldSession StageData). record (column_of states_in session column) {
      missed = missed_by (maker_of new) new.kept column;
      saves = saves_by (maker_of new) new.saves (drop 1 new.kept) column;
    })
    keeps.session
    ∙ ap₂ (λ (own_missed : Bool) (own_saves : List (List ℕ × List Tern)). record (column_of states_in old.session column) { missed = own_missed; saves = own_saves })
    missed saves

pub save_done : (old new : SymbolData) (name : List ℕ) → IsSymbolSession old → IsHeldSession columns_on states_in ServesIn old.session → KeepsStates old name new →
    other_saves old.saves name < MOST_SAVES → (column : ℕ) → column < columns_in (maker_of old) →
    Does (data_of old column) (family.Setup (setup.Save name)) (data_of new column) []
save_done old new name own held keeps few column inside = record {
  allowed = save_allowed old name few column;
  effect = (data_saved old new name own held keeps column inside, refl);
}

-- names and functions are the same
pub saved_keeps : (old new : SymbolData) (name : List ℕ) → KeepsStates old name new → KeepsFunctions (maker_of old) (maker_of new)
saved_keeps old new name keeps =
    subst (λ (session : HeldSession StageData). KeepsFunctions (maker_of old) session.stage.machine.maker) (sym keeps.session) (keeps_same (maker_of old))

pub saved_stays : (old new : SymbolData) (name : List ℕ) → KeepsStates old name new → Stays old new
saved_stays old new name keeps = record {
  quiet = keeps.quiet;
  text = keeps.text;
  names = ap (λ (table : TableData). table.names) keeps.names;
  truths = λ column inside.
      ap₂ (λ (session : HeldSession StageData) (table : TableData).
      values_under session.stage.machine.maker.graph.vertices (valuation_of session.stage.machine.maker.graph.variables column) table.functions) keeps.session keeps.names;
}
