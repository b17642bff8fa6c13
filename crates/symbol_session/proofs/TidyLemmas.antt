-- Functions that stand for those that there were, over another maker: what the columns' data are by them is as before, and a session stays one.
use Rattle.std.proofs.Common.{◌≡◌, ℕ, ◌+◌, ◌-◌, ◌<◌, ◌≤◌, Bool, false, List, [], ◌∷◌, ◌++◌, length, take, drop, All, refl, sym, ap, ap₂, subst, ◌∙◌, arith, length-drop}
use Rattle.std.proofs.lemmas.List.{drop-map, length-take-le}
use Rattle.ternary.specs.declared.tern.Tern.{Tern}
use Rattle.switch_paths.specs.Graphs.{nodes}
use Rattle.switch_paths.specs.Rails.{IsSound}
use Rattle.decision_graph.specs.declared.vertex.Function.{Function}
use Rattle.formula_functions.specs.Tables.{TableData}
use Rattle.truth_columns.specs.Columns.{values_in, HasColumn}
use Rattle.truth_columns.proofs.ColumnLemmas.{values_in-take}
use Rattle.truth_makers.specs.declared.symbols.Symbols.{Symbols}
use Rattle.truth_makers.specs.Makers.{columns_in, function_holds, IsFunctionOf}
use Rattle.truth_parts.specs.Columns.{AreColumns, states_of}
use Rattle.session_meaning.specs.Sessions.{HeldSession, SessionData}
use Rattle.session_meaning.specs.Columns.{column_of}
use Rattle.symbol_stage.specs.Compacting.{AreMoved, IsTidied}
use Rattle.symbol_stage.specs.Stages.{StageData, columns_on, states_in}
use Rattle.symbol_stage.proofs.MovedLemmas.{AreMoved-front, AreMoved-rest, columns_moved}
use Rattle.symbol_meaning.specs.Readings.{Valuations}
use Rattle.symbol_equiv.specs.Sharing.{StandFor}
use Rattle.symbol_session.specs.Asked.{AreSame}
use Rattle.symbol_session.specs.Sessions.{AreKeptRails, IsSymbolSession, Save, Stays, SymbolData, data_of, highs_of, lows_of, maker_of, missed_by, rest_of, saves_by, states_kept}
use Rattle.symbol_session.specs.Tidying.{AreTidied}
use Rattle.symbol_session.proofs.ServeLemmas.{valuations_stay}

-- ---- functions that were moved

-- nothing was moved
moved_none : (maker : Symbols) (truths : List Function) → All (IsFunctionOf maker) truths → AreMoved maker maker truths truths
moved_none maker truths inside = record {
  shape = record { variables = refl; most = refl };
  counted = refl;
  inside = inside;
  same = λ column. refl;
}

-- they stand for those that there were
pub moved_stand : (old new : Symbols) (truths made : List Function) → AreMoved old new truths made → StandFor old new truths made
moved_stand old new truths made moved = record {
  columns = columns_moved old new moved.shape;
  counted = moved.counted;
  inside = moved.inside;
  same = moved.same;
}

-- so do those of a maker that has them alone
pub own_stand : (maker own new : Symbols) (truths roots made : List Function) → own ≡ maker → roots ≡ truths → columns_in new ≡ columns_in own →
    length made ≡ length roots → All (IsFunctionOf new) made →
    ((column : ℕ) → values_in (function_holds new) column made ≡ values_in (function_holds own) column roots) → StandFor maker new truths made
own_stand maker own new truths roots made is are columns counted inside same =
    subst (λ (symbols : Symbols). StandFor symbols new truths made) is
    (subst (λ (list : List Function). StandFor own new list made) are
    (record { columns = columns; counted = counted; inside = inside; same = same }))

-- whether an expectation wasn't met is the first of the truth values
abbrev first_value : List Bool → Bool
first_value [] = false
first_value (value ∷ others) = value

missed_value : (symbols : Symbols) (kept : List Function) (column : ℕ) → missed_by symbols kept column ≡ first_value (values_in (function_holds symbols) column kept)
missed_value symbols [] column = refl
missed_value symbols (own ∷ kept) column = refl

module _ (old new : Symbols) where
  -- in each column they have the truth values of those in whose places they stand
  abbrev HaveValues : List Function → List Function → Type 0
  HaveValues truths made = (column : ℕ) → values_in (function_holds new) column made ≡ values_in (function_holds old) column truths

  take_values : (n : ℕ) (truths made : List Function) → HaveValues truths made → HaveValues (take n truths) (take n made)
  take_values n truths made same column =
      values_in-take (function_holds new) column n made ∙ ap (λ (values : List Bool). take n values) (same column)
      ∙ sym (values_in-take (function_holds old) column n truths)

  drop_values : (n : ℕ) (truths made : List Function) → HaveValues truths made → HaveValues (drop n truths) (drop n made)
  drop_values n truths made same column =
      sym (drop-map (λ (truth : Function). function_holds new truth column) n made) ∙ ap (λ (values : List Bool). drop n values) (same column)
      ∙ drop-map (λ (truth : Function). function_holds old truth column) n truths

  -- so an expectation was met where it was
  missed_moved : (truths made : List Function) → HaveValues truths made → (column : ℕ) → missed_by new made column ≡ missed_by old truths column
  missed_moved truths made same column = missed_value new made column ∙ ap first_value (same column) ∙ sym (missed_value old truths column)

  -- and the states that are kept are as before
  kept_moved : (n : ℕ) (truths made : List Function) → HaveValues truths made → (column : ℕ) → states_kept new n made column ≡ states_kept old n truths column
  kept_moved n truths made same column =
      ap₂ states_of (take_values n truths made same column) (take_values n (drop n truths) (drop n made) (drop_values n truths made same) column)

  rest_moved : (n : ℕ) (truths made : List Function) → HaveValues truths made → HaveValues (rest_of n truths) (rest_of n made)
  rest_moved n truths made same = drop_values n (drop n truths) (drop n made) (drop_values n truths made same)

  saves_moved : (saves : List Save) (truths made : List Function) → HaveValues truths made → (column : ℕ) →
      saves_by new saves made column ≡ saves_by old saves truths column
  saves_moved [] truths made same column = refl
  saves_moved (own ∷ saves) truths made same column =
      ap₂ (λ (states : List Tern) (others : List (List ℕ × List Tern)). (own.0, states) ∷ others)
      (kept_moved own.1 truths made same column) (saves_moved saves (rest_of own.1 truths) (rest_of own.1 made) (rest_moved own.1 truths made same) column)

  -- rails of states are so still
  columns_still : (n : ℕ) (truths made : List Function) → columns_in new ≡ columns_in old → n + n ≤ length made → HaveValues truths made →
      AreColumns (columns_in old) (function_holds old) (highs_of n truths) (lows_of n truths) →
      AreColumns (columns_in new) (function_holds new) (highs_of n made) (lows_of n made)
  columns_still n truths made count long same are = record {
    counted =
        let high : length (highs_of n made) ≡ n = length-take-le n made (omega (arith, long)) in
        let low : length (lows_of n made) ≡ n = length-take-le n (drop n made) (omega (arith, long, length-drop n made)) in
        low ∙ sym high;
    each = λ column within.
        let inside : column < columns_in old = subst (λ (k : ℕ). column < k) count within in
        let high = take_values n truths made same column in
        let low = take_values n (drop n truths) (drop n made) (drop_values n truths made same) column in
        subst (λ (states : List Tern). HasColumn (function_holds new) column (highs_of n made) (lows_of n made) states) (sym (kept_moved n truths made same column))
        (record { ones = high ∙ (are.each column inside).ones; zeros = low ∙ (are.each column inside).zeros });
  }

  rails_moved : (count : ℕ) (saves : List Save) (truths made : List Function) → columns_in new ≡ columns_in old → length made ≡ length truths →
      HaveValues truths made → AreKeptRails old count saves truths → AreKeptRails new count saves made
  rails_moved count [] truths made columns long same none = empty made (long ∙ ap length none)
    where
      empty : (list : List Function) → length list ≡ 0 → list ≡ []
      empty [] is = refl
      empty (own ∷ list) is = absurd (omega (arith, is))
  rails_moved count (own ∷ saves) truths made columns long same (here, rest) = (
    record {
      few = here.few;
      railed = here.railed;
      counted = omega (arith, here.counted, long);
      rails = columns_still own.1 truths made columns (omega (arith, here.counted, long)) same here.rails;
      sound = λ column within.
          let inside : column < columns_in old = subst (λ (k : ℕ). column < k) columns within in
          subst IsSound (sym (kept_moved own.1 truths made same column)) (here.sound column inside);
    },
    rails_moved count saves (rest_of own.1 truths) (rest_of own.1 made) columns
        (length-drop own.1 (drop own.1 made) ∙ ap (λ (n : ℕ). n - own.1) (length-drop own.1 made ∙ ap (λ (n : ℕ). n - own.1) long ∙ sym (length-drop own.1 truths))
        ∙ sym (length-drop own.1 (drop own.1 truths)))
        (rest_moved own.1 truths made same) rest,
  )

-- ---- a session that was tidied

module _ (old new : SymbolData) (others others_later : List Function)
    (tidied : AreTidied old.session new.session old.names new.names old.kept new.kept others others_later) (saves : new.saves ≡ old.saves)
    (count : new.count ≡ old.count) (quiet : new.quiet ≡ old.quiet) (text : new.text ≡ old.text) (own : IsSymbolSession old) where
  columns_tidied : columns_in (maker_of new) ≡ columns_in (maker_of old)
  columns_tidied = columns_moved (maker_of old) (maker_of new) tidied.kept_moved.shape

  pub tidied_stays : Stays old new
  tidied_stays = record {
    quiet = quiet;
    text = text;
    names = tidied.same_names;
    truths = λ column inside. tidied.names_moved.same column;
  }

  pub tidied_session : IsSymbolSession new
  tidied_session = record {
    shape = columns_tidied ∙ own.shape ∙ ap (λ (v : Valuations). v.columns) (sym (valuations_stay old new quiet text));
    named = tidied.names_moved.inside;
    inside = tidied.kept_moved.inside;
    missed = omega (arith, own.missed, tidied.kept_moved.counted);
    counted = count ∙ own.counted ∙ ap (λ (core : SessionData). core.count) (sym tidied.core);
    saved = rw (saves, tidied.core)
        (rails_moved (maker_of old) (maker_of new) (nodes old.session.core.circuit.graph) old.saves (drop 1 old.kept) (drop 1 new.kept) columns_tidied
        (length-drop 1 new.kept ∙ ap (λ (n : ℕ). n - 1) tidied.kept_moved.counted ∙ sym (length-drop 1 old.kept))
        (drop_values (maker_of old) (maker_of new) 1 old.kept new.kept tidied.kept_moved.same) own.saved);
  }

  -- in each column the data are as before
  pub tidied_same : AreSame (columns_in (maker_of old)) (data_of old) (data_of new)
  tidied_same column inside =
      ap₂ (λ (core : SessionData) (states : List Tern).
      record core { state = states; missed = missed_by (maker_of new) new.kept column; saves = saves_by (maker_of new) new.saves (drop 1 new.kept) column })
      tidied.core (tidied.states column inside)
      ∙ ap₂ (λ (missed : Bool) (kept : List (List ℕ × List Tern)). record (column_of states_in old.session column) { missed = missed; saves = kept })
      (missed_moved (maker_of old) (maker_of new) old.kept new.kept tidied.kept_moved.same column)
      (ap (λ (all : List Save). saves_by (maker_of new) all (drop 1 new.kept) column) saves
      ∙ saves_moved (maker_of old) (maker_of new) old.saves (drop 1 old.kept) (drop 1 new.kept)
      (drop_values (maker_of old) (maker_of new) 1 old.kept new.kept tidied.kept_moved.same) column)

-- ---- the parts

-- memory lacks, and all is as before
pub tidied_none : (old : HeldSession StageData) (names : TableData) (kept others : List Function) → All (IsFunctionOf old.stage.machine.maker) names.functions →
    All (IsFunctionOf old.stage.machine.maker) kept → All (IsFunctionOf old.stage.machine.maker) others → AreTidied old old names names kept kept others others
tidied_none old names kept others named inside more = record {
  core = refl;
  states = λ column within. refl;
  same_names = refl;
  names_moved = moved_none old.stage.machine.maker names.functions named;
  kept_moved = moved_none old.stage.machine.maker kept inside;
  others_moved = moved_none old.stage.machine.maker others more;
}

-- what was kept and the others went on in one list
pub tidied_both : (old new : HeldSession StageData) (names later : TableData) (kept others all found front rest : List Function) → new.core ≡ old.core →
    ((column : ℕ) → column < columns_on old.stage → states_in new.stage column ≡ states_in old.stage column) → all ≡ kept ++ others →
    IsTidied old.stage new.stage names later all found → front ≡ take (length kept) found → rest ≡ drop (length kept) found →
    AreTidied old new names later kept front others rest
tidied_both old new names later kept others all found front rest core states are is first last =
    let was = old.stage.machine.maker in
    let now = new.stage.machine.maker in
    let moved : AreMoved was now (kept ++ others) found = subst (λ (list : List Function). AreMoved was now list found) are is.kept_moved in
    record {
      core = core;
      states = states;
      same_names = is.same_names;
      names_moved = is.names_moved;
      kept_moved = subst (AreMoved was now kept) (sym first) (AreMoved-front was now kept others found moved);
      others_moved = subst (AreMoved was now others) (sym last) (AreMoved-rest was now kept others found moved);
    }
