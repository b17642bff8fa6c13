-- In which columns an expectation wasn't met: the function that holds there goes on in the place of the one before, assignment by assignment.
use Rattle.std.proofs.Common.{◌≡◌, ℕ, zero, suc, ◌+◌, take, ◌<◌, ◌||◌, Bool, true, false, not, List, [], ◌∷◌, ◌++◌, length, drop, All, None, Some, Result, Ok, Err, refl, sym, ap, ap₂, subst, ◌∙◌, arith, if◌then◌else◌}
use Rattle.std.proofs.Math.Bool.{or-false}
use Rattle.std.specs.Prelude.{IfOk, slice_index_or, slice_set}
use Rattle.std.specs.List.{cons_option, list_any}
use Rattle.std.proofs.lemmas.List.{map-append}
use Rattle.std.proofs.lemmas.List.Elements.{All-cons, All-head, All-tail, filter_map-append}
use Rattle.ternary.specs.declared.tern.Tern.{Tern}
use Rattle.switch_paths.specs.Graphs.{nodes}
use Rattle.decision_graph.specs.declared.graph.GraphFault.{GraphFault}
use Rattle.decision_graph.specs.Meaning.{holds}
use Rattle.decision_graph.specs.declared.vertex.Function.{Function}
use Rattle.truth_makers.specs.declared.symbols.Symbols.{Symbols}
use Rattle.truth_makers.specs.Makers.{columns_in, function_holds, IsFunctionOf}
use Rattle.truth_makers.specs.Valuations.{valuation_of}
use Rattle.told_lines.specs.Lines.{Line, is_unmet}
use Rattle.session_meaning.specs.Sessions.{HeldSession, SessionData}
use Rattle.session_meaning.specs.Columns.{column_of}
use Rattle.session_meaning.specs.Effects.{letters_in, unmet_by, unmet_line, unmet_lines}
use Rattle.symbol_script.specs.declared.line.Assignment.{Assignment}
use Rattle.truth_machine.specs.Symbols.{MakesMore}
use Rattle.symbol_stage.specs.Stages.{StageData, columns_on, states_in}
use Rattle.symbol_stage.proofs.FormulaLemmas.{makes_both}
use Rattle.symbol_meaning.specs.Readings.{plain_under}
use Rattle.vector_values.specs.Values.{Letter}
use Rattle.formula_functions.specs.Tables.{TableData}
use Rattle.symbol_giving.specs.declared.letters.SymbolLetter.{SymbolLetter}
use Rattle.symbol_giving.specs.Letters.{AreGivenBy, OnlyMakes, named_in, pairs_in}
use Rattle.symbol_expecting.specs.Missing.{are_met, are_met_in, MakesOn}
use Rattle.symbol_expecting.proofs.MissingLemmas.{columns_more, holds_more, made_in, there_more}
use Rattle.symbol_session.specs.Missing.{NotesMissed, isnt_met, plain_by_table}
use Rattle.symbol_session.specs.Sessions.{AreKeptRails, IsSymbolSession, Stays, SymbolData, data_of, maker_of, missed_by, saves_by}
use Rattle.symbol_session.proofs.DataLemmas.{stays_on}
use Rattle.symbol_session.proofs.ExpectLemmas.{plain_still}
use Rattle.symbol_session.proofs.MadeLemmas.{goes_made, held_made, same_made}

-- ---- the function

-- where some node isn't as it is wanted, or where another function held
pub missed_either : (old mid new : StageData) → MakesOn old mid → MakesOn mid new → (pairs : List (ℕ × SymbolLetter)) (before own made : Function) →
    IsFunctionOf old.machine.maker before →
    ((column : ℕ) → column < columns_on old → function_holds mid.machine.maker own column ≡ not (are_met_in old pairs column)) →
    ((vars : ℕ → Bool) → holds new.machine.maker.graph.vertices vars made.place
    ≡ (holds mid.machine.maker.graph.vertices vars before.place || holds mid.machine.maker.graph.vertices vars own.place)) → (column : ℕ) → column < columns_on old →
    function_holds new.machine.maker made column ≡ (function_holds old.machine.maker before column || not (are_met_in old pairs column))
missed_either old mid new first second pairs before own made there own_is is column below =
    made_in mid new second.makes made column ∙ is (valuation_of mid.machine.maker.graph.variables column)
    ∙ ap₂ (λ (a b : Bool). a || b) (holds_more old mid first.makes before column there below) (own_is column below)

-- a line of an assignment is told exactly if it isn't met
unmet_told : (session : SessionData) (name : List ℕ) (pairs : List (ℕ × Letter)) → list_any is_unmet (cons_option (unmet_by session name pairs) []) ≡ not (are_met session.state pairs)
unmet_told session name pairs = by (are_met session.state pairs) _ refl
  where
    by : (test : Bool) (line : Line) → is_unmet line ≡ true → list_any is_unmet (cons_option (if test then None else Some line) []) ≡ not test
    by true line is = refl
    by false line is = ap (λ (test : Bool). test || false) is

-- of the letters that an assignment gives, in a column
pub unmet_given : (session : HeldSession StageData) (table : TableData) (own : Assignment) (stage : StageData) (pairs : List (ℕ × SymbolLetter)) →
    AreGivenBy session table own stage pairs → (column : ℕ) → column < columns_on session.stage → states_in stage column ≡ states_in session.stage column →
    not (are_met_in stage pairs column) ≡ isnt_met session table own column
unmet_given session table own stage pairs given column inside states =
    let item = plain_under (named_in session.stage table column) session.core.circuit session.core.vectors own in
    ap (λ (list : List Tern). not (are_met list (pairs_in stage pairs column))) states
    ∙ sym (unmet_told (column_of states_in session column) item.0 (pairs_in stage pairs column))
    ∙ sym (ap (λ (letters : _). list_any is_unmet (cons_option (unmet_by (column_of states_in session column) item.0 (letters_in letters)) [])) (given column inside))

-- ---- the session

-- what was kept, with another function in the first place
module _ (new : Symbols) (made : Function) (inside : IsFunctionOf new made) where
  pub set_inside : (kept : List Function) → 0 < length kept → All (IsFunctionOf new) kept → All (IsFunctionOf new) (slice_set kept 0 made)
  set_inside [] some all = absurd (omega (arith, some))
  set_inside (own ∷ kept) some all = All-cons (IsFunctionOf new) made kept inside (All-tail (IsFunctionOf new) own kept all)

  pub set_some : (kept : List Function) → 0 < length kept → 0 < length (slice_set kept 0 made)
  set_some [] some = absurd (omega (arith, some))
  set_some (own ∷ kept) some = omega arith

pub set_rest : (kept : List Function) → 0 < length kept → (made : Function) → drop 1 (slice_set kept 0 made) ≡ drop 1 kept
set_rest [] some made = absurd (omega (arith, some))
set_rest (own ∷ kept) some made = refl

pub set_first : (symbols : Symbols) (kept : List Function) → 0 < length kept → (made : Function) (column : ℕ) →
    missed_by symbols (slice_set kept 0 made) column ≡ function_holds symbols made column
set_first symbols [] some made column = absurd (omega (arith, some))
set_first symbols (own ∷ kept) some made column = refl

-- the first function
pub first_inside : (symbols : Symbols) (kept : List Function) → All (IsFunctionOf symbols) kept → 0 < length kept → (first : Function) →
    ((d : Function) → first ≡ slice_index_or kept 0 d) → IsFunctionOf symbols first
first_inside symbols [] all some first is = absurd (omega (arith, some))
first_inside symbols (own ∷ kept) all some first is = subst (IsFunctionOf symbols) (sym (is own)) (All-head (IsFunctionOf symbols) own kept all)

first_is : (symbols : Symbols) (kept : List Function) → 0 < length kept → (first : Function) → ((d : Function) → first ≡ slice_index_or kept 0 d) → (column : ℕ) →
    function_holds symbols first column ≡ missed_by symbols kept column
first_is symbols [] some first is column = absurd (omega (arith, some))
first_is symbols (own ∷ kept) some first is column = ap (λ (one : Function). function_holds symbols one column) (is own)

module _ (old : SymbolData) (own : IsSymbolSession old) (session : HeldSession StageData) (only : OnlyMakes old.session session) (made : Function)
    (inside : IsFunctionOf session.stage.machine.maker made) (one : Assignment) where
  abbrev mid : SymbolData
  mid = record old { session = session }

  abbrev new : SymbolData
  new = record old { session = session; kept = slice_set old.kept 0 made }

  pub noted_held : IsSymbolSession new
  noted_held =
      let is = held_made old session only own in
      record {
        shape = is.shape;
        named = is.named;
        inside = set_inside (maker_of mid) made inside old.kept own.missed is.inside;
        missed = set_some (maker_of mid) made inside old.kept own.missed;
        counted = is.counted;
        saved = subst (AreKeptRails (maker_of mid) (nodes session.core.circuit.graph) old.saves) (sym (set_rest old.kept own.missed made)) is.saved;
      }

  -- each column is as before, but for what was missed
  noted_data : (column : ℕ) → column < columns_in (maker_of old) → data_of new column ≡ record (data_of old column) { missed = function_holds (maker_of mid) made column }
  noted_data column within =
      ap₂ (λ (missed : Bool) (kept : List Function). record (column_of states_in session column) { missed = missed; saves = saves_by (maker_of mid) old.saves kept column })
      (set_first (maker_of mid) old.kept own.missed made column) (set_rest old.kept own.missed made)
      ∙ ap (λ (s : SessionData). record s { missed = function_holds (maker_of mid) made column }) (same_made old session only own column within)

  pub noted : ((column : ℕ) → column < columns_in (maker_of old) → function_holds (maker_of mid) made column
      ≡ (missed_by (maker_of old) old.kept column || isnt_met old.session old.names one column)) → NotesMissed old (one ∷ []) new
  noted holds_there = record {
    missed = λ column within. ap (λ (s : SessionData). s.missed) (noted_data column within) ∙ holds_there column within;
    others = λ column within.
        noted_data column within
        ∙ ap (λ (missed : Bool). record (data_of old column) { missed = missed }) (sym (ap (λ (s : SessionData). s.missed) (noted_data column within)));
    circuit = only.core;
  }

  -- by the function that was first
  pub noted_by : (first : Function) → ((d : Function) → first ≡ slice_index_or old.kept 0 d) →
      ((column : ℕ) → column < columns_in (maker_of old) → function_holds (maker_of mid) made column
      ≡ (function_holds (maker_of old) first column || isnt_met old.session old.names one column)) → NotesMissed old (one ∷ []) new
  noted_by first is holds_there = noted (λ column within.
      holds_there column within ∙ ap (λ (test : Bool). test || isnt_met old.session old.names one column) (first_is (maker_of old) old.kept own.missed first is column))

  pub noted_stays : Stays old new
  noted_stays =
      let stays = stays_on old mid own (goes_made old session only) in
      record { quiet = stays.quiet; text = stays.text; names = stays.names; truths = stays.truths }

-- ---- one after the other

or_both : (a b c : Bool) → ((a || b) || c) ≡ (a || (b || c))
or_both true b c = refl
or_both false b c = refl

any_append : (lines more : List Line) → list_any is_unmet (lines ++ more) ≡ (list_any is_unmet lines || list_any is_unmet more)
any_append [] more = refl
any_append (line ∷ lines) more =
    ap (λ (test : Bool). is_unmet line || test) (any_append lines more) ∙ sym (or_both (is_unmet line) (list_any is_unmet lines) (list_any is_unmet more))

-- the first of a list, and one more
pub take_next : {A : Type 0} (list : List A) (k : ℕ) (one : A) → drop k list ≡ one ∷ drop (k + 1) list → take (k + 1) list ≡ take k list ++ one ∷ []
take_next [] zero one is = absurd (cc)
take_next [] (suc k) one is = absurd (cc)
take_next {A} (first ∷ list) zero one is = let e : first ≡ one = cc in ap (λ (own : A). own ∷ []) e
take_next {A} (first ∷ list) (suc k) one is =
    let next : suc k + 1 ≡ suc (k + 1) = omega arith in
    ap (λ (n : ℕ). take n (first ∷ list)) next
    ∙ ap (λ (front : List A). first ∷ front) (take_next list k one (is ∙ ap (λ (n : ℕ). one ∷ drop n (first ∷ list)) next))

-- nothing yet
pub notes_none : (d : SymbolData) → NotesMissed d [] d
notes_none d = record {
  missed = λ column inside. sym (or-false (data_of d column).missed);
  others = λ column inside. refl;
  circuit = refl;
}

-- some assignments, and then one more
pub notes_then : (old mid new : SymbolData) → columns_in (maker_of mid) ≡ columns_in (maker_of old) → Stays old mid → (front : List Assignment) (one : Assignment) →
    NotesMissed old front mid → NotesMissed mid (one ∷ []) new → NotesMissed old (front ++ one ∷ []) new
notes_then old mid new count stays front one first second = record {
  missed = λ column inside.
      let there : column < columns_in (maker_of mid) = subst (λ (n : ℕ). column < n) (sym count) inside in
      let mine = data_of old column in
      let lines = unmet_lines mine (plain_by_table old front column) in
      let more = unmet_lines mine (plain_by_table old (one ∷ []) column) in
      second.missed column there
      ∙ ap₂ (λ (missed : Bool) (told : List Line). missed || list_any is_unmet told) (first.missed column inside)
      (ap (λ (s : SessionData). unmet_lines s (plain_by_table mid (one ∷ []) column)) (first.others column inside)
      ∙ ap (unmet_lines mine) (plain_still old mid first.circuit stays (one ∷ []) column inside))
      ∙ or_both mine.missed (list_any is_unmet lines) (list_any is_unmet more)
      ∙ ap (λ (test : Bool). mine.missed || test)
      (sym (any_append lines more)
      ∙ sym (ap (list_any is_unmet)
      (ap (unmet_lines mine)
      (map-append (plain_under (named_in old.session.stage old.names column) old.session.core.circuit old.session.core.vectors) front (one ∷ []))
      ∙ filter_map-append (unmet_line mine) (plain_by_table old front column) (plain_by_table old (one ∷ []) column))));
  others = λ column inside.
      let there : column < columns_in (maker_of mid) = subst (λ (n : ℕ). column < n) (sym count) inside in
      second.others column there ∙ ap (λ (s : SessionData). record s { missed = (data_of new column).missed }) (first.others column inside);
  circuit = second.circuit ∙ first.circuit;
}

-- ---- where an assignment isn't met

pub there_later : (old mid : HeldSession StageData) → OnlyMakes old mid → (before : Function) → IsFunctionOf old.stage.machine.maker before →
    IsFunctionOf mid.stage.machine.maker before
there_later old mid only before there = there_more old.stage mid.stage only.makes before there

pub made_only : (old mid new : HeldSession StageData) → OnlyMakes old mid → new.core ≡ mid.core → MakesMore mid.stage.machine new.stage.machine → OnlyMakes old new
made_only old mid new only core makes = record {
  core = core ∙ only.core;
  makes = makes_both old.stage.machine mid.stage.machine new.stage.machine only.makes makes;
}

pub made_where : (old mid : HeldSession StageData) (table : TableData) (own : Assignment) (only : OnlyMakes old mid) (pairs : List (ℕ × SymbolLetter)) (before : Function) →
    IsFunctionOf old.stage.machine.maker before → AreGivenBy old table own mid.stage pairs → (new : HeldSession StageData) (made : Result Function GraphFault) →
    IfOk made (λ own_made. (column : ℕ) → column < columns_on mid.stage → function_holds new.stage.machine.maker own_made column
    ≡ (function_holds mid.stage.machine.maker before column || not (are_met_in mid.stage pairs column))) →
    IfOk made (λ own_made. (column : ℕ) → column < columns_on old.stage → function_holds new.stage.machine.maker own_made column
    ≡ (function_holds old.stage.machine.maker before column || isnt_met old table own column))
made_where old mid table own only pairs before there given _ (Ok made) holds_there = λ column inside.
    let within : column < columns_on mid.stage = subst (λ (n : ℕ). column < n) (sym (columns_more old.stage mid.stage only.makes)) inside in
    holds_there column within
    ∙ ap₂ (λ (a b : Bool). a || b) (holds_more old.stage mid.stage only.makes before column there inside)
    (unmet_given old table own mid.stage pairs given column inside (only.makes.states column inside))
made_where old _ table own only pairs before there given _ (Err fault) holds_there = tt
