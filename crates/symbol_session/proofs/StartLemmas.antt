-- A session at its start: the names of a script stand for its variables, each column is at its start, and it is served with the lines that come; and
-- if vertices run out for the variables, there is a first line.
use Rattle.std.proofs.Common.{◌≡◌, ◌≢◌, ℕ, zero, suc, ◌+◌, ◌^◌, ◌<◌, ◌≤◌, ◌||◌, Bool, true, false, List, [], ◌∷◌, ◌++◌, length, map, filter, take, drop, get_or, nat_lt, All, Option, None, Some, unwrap_or, Result, Ok, Err, IfErr, IfOk, refl, sym, ap, ap₂, subst, ◌∙◌, arith, append_assoc, append-nil}
use Rattle.std.specs.List.{enumerate_from, range_with_len, slice_get}
use Rattle.std.proofs.Math.Seq.{take-suc}
use Rattle.std.proofs.lemmas.Bool.{ltb-false}
use Rattle.std.proofs.lemmas.Nat.{pow_pos}
use Rattle.std.proofs.lemmas.List.Elements.{All-nil, All-push}
use Rattle.std.proofs.lemmas.List.FromFn.{length-map-range_with_len, map-range_with_len_more}
use Rattle.std.proofs.lemmas.Option.{slice_get_within, unwrap_or-slice_get}
use Rattle.line_words.specs.Files as file
use Rattle.line_words.specs.Files.{front_of}
use Rattle.line_words.specs.Lines.{lines_of}
use Rattle.ternary.specs.declared.tern.Tern.{Tern}
use Rattle.switch_paths.specs.Graphs.{nodes}
use Rattle.netlist.specs.Circuits.{CircuitData}
use Rattle.decision_graph.specs.declared.graph.GraphFault.{GraphFault}
use Rattle.decision_graph.specs.declared.graph.GraphFault.TheVariants as graph
use Rattle.decision_graph.specs.declared.vertex.Function.{Function}
use Rattle.decision_graph.specs.Meaning.{holds}
use Rattle.decision_graph.proofs.VertexLemmas.{Extends-same}
use Rattle.formula_functions.specs.Tables.{TableData, with_named, values_under}
use Rattle.formula_functions.proofs.TableLemmas.{values_under-extends, AreInside-extends}
use Rattle.truth_makers.specs.declared.symbols.Symbols.{Symbols}
use Rattle.truth_makers.specs.Makers.{columns_in, function_holds, IsFunctionOf}
use Rattle.truth_makers.specs.Valuations.{valuation_of}
use Rattle.truth_makers.proofs.SymbolLemmas.{functions-kept}
use Rattle.truth_machine.specs.Machines.{TruthData}
use Rattle.truth_machine.specs.Symbols.{MakesMore}
use Rattle.symbol_lines.specs.Names.{LineData, NamesData, has_name, names_fault, no_names, unless_fault, with_definition, with_line, with_lines, with_name, with_names}
use Rattle.symbol_lines.specs.declared.names.NameFault.{NameFault}
use Rattle.symbol_lines.proofs.NameLemmas.{neither, with_name_new, with_name_there}
use Rattle.symbol_script.specs.declared.line.SymbolLine.{SymbolLine}
use Rattle.symbol_script.specs.Lines.{names_of_line}
use Rattle.session_meaning.specs.Sessions.{SessionData, start_of}
use Rattle.session_meaning.specs.Columns.{column_of}
use Rattle.symbol_stage.specs.Stages.{StageData, columns_on, states_in}
use Rattle.symbol_meaning.specs.Readings.{Valuations, truths_in, valuations_of}
use Rattle.symbol_meaning.specs.Scripts.{NamedStop, asked_lines, before_stop, read_of, stop_of, variables_of}
use Rattle.symbol_reading.proofs.ReadingLemmas.{Asked, before, kept_if, not_before, rises-asked, rises-enumerated, rises-later, Rises}
use Rattle.symbol_run.specs.declared.session.SymbolFault.{SymbolFault}
use Rattle.symbol_run.specs.declared.session.SymbolFault.TheVariants.{Full, Stopped}
use Rattle.run_ends.specs.declared.stop.Stop.TheVariants.{Write}
use Rattle.symbol_run.specs.Halts.{StopsAmong}
use Rattle.symbol_run.specs.Serving.{IsServed}
use Rattle.symbol_run.proofs.NamedLemmas.{values_push}
use Rattle.symbol_run.proofs.ServingLemmas.{served_start}
use Rattle.symbol_comparing.specs.Told.{AreValuationsOf}
use Rattle.symbol_equiv.specs.Sharing.{KeepsFunctions}
use Rattle.symbol_session.specs.Sessions.{AreKeptRails, IsSymbolSession, Save, ServesLines, SymbolData, data_of, maker_of, saves_by, truths_by, valuations_by}
use Rattle.symbol_session.specs.Starting.{AreApart, AreVariables, IsAtStart, IsFirstKept, ServesAlike, StandForVariables, StartData, data_at_start, valuations_at_start}
use Rattle.symbol_session.specs.Turns.{IsOwnFault, fault_at}
use Rattle.symbol_session.proofs.DataLemmas.{all_kept, missed_kept}
use Rattle.symbol_session.proofs.KnownLemmas.{served_alike}

-- ---- the names of a script

-- one more that isn't among those before it
apart_push : (front names : List (List ℕ)) (name : List ℕ) → AreApart front names → has_name (front ++ names) name ≡ false → AreApart front (names ++ name ∷ [])
apart_push front [] name apart absent = (subst (λ (all : List (List ℕ)). has_name all name ≡ false) (append-nil front) absent, tt)
apart_push front (own ∷ names) name (first, rest) absent = (
  first,
  apart_push (front ++ own ∷ []) names name rest
      (subst (λ (all : List (List ℕ)). has_name all name ≡ false) (sym (append_assoc front (own ∷ []) names)) absent),
)

-- so it is with each variable that appears
named_apart : (d : NamesData) (name : List ℕ) → AreApart [] d.variables → AreApart [] (with_name d name).variables
named_apart d name apart = by (has_name d.defined name || has_name d.variables name) refl
  where
    by : (test : Bool) → (has_name d.defined name || has_name d.variables name) ≡ test → AreApart [] (with_name d name).variables
    by true there = subst (λ (own : NamesData). AreApart [] own.variables) (sym (with_name_there d name there)) apart
    by false absent =
        subst (λ (own : NamesData). AreApart [] own.variables) (sym (with_name_new d name absent))
        (apart_push [] d.variables name apart (neither (has_name d.defined name) (has_name d.variables name) absent).1)

names_apart : (names : List (List ℕ)) (d : NamesData) → AreApart [] d.variables → AreApart [] (with_names names d).variables
names_apart [] d apart = apart
names_apart (name ∷ names) d apart = names_apart names (with_name d name) (named_apart d name apart)

defined_apart : (d : NamesData) (defines : Option (List ℕ)) → AreApart [] d.variables → AreApart [] (with_definition d defines).variables
defined_apart d None apart = apart
defined_apart d (Some name) apart = apart

either_apart : (found : Option NameFault) (later now : NamesData) → AreApart [] later.variables → AreApart [] now.variables →
    AreApart [] (unless_fault found later now).variables
either_apart None later now one other = one
either_apart (Some fault) later now one other = other

lines_apart : (lines : List LineData) (d : NamesData) → AreApart [] d.variables → AreApart [] (with_lines lines d).variables
lines_apart [] d apart = apart
lines_apart (line ∷ lines) d apart =
    either_apart (names_fault d line) (with_lines lines (with_line d line)) d
    (lines_apart lines (with_line d line) (defined_apart (with_names line.used d) line.defines (names_apart line.used d apart))) apart

-- the variables of what was read are apart
pub variables_apart : (read : List (Option SymbolLine)) → AreApart [] (variables_of read)
variables_apart read = lines_apart (map names_of_line read) no_names tt

-- the name at a place isn't among those before it
at_apart : (front names : List (List ℕ)) (k : ℕ) (d : List ℕ) → k < length names → AreApart front names → has_name (front ++ take k names) (get_or names k d) ≡ false
at_apart front [] k d inside apart = absurd (let e : k < 0 = inside in omega (arith, e))
at_apart front (own ∷ names) zero d inside (first, rest) = subst (λ (all : List (List ℕ)). has_name all own ≡ false) (sym (append-nil front)) first
at_apart front (own ∷ names) (suc k) d inside (first, rest) =
    subst (λ (all : List (List ℕ)). has_name all (get_or names k d) ≡ false) (append_assoc front (own ∷ []) (take k names))
    (at_apart (front ++ own ∷ []) names k d (omega (arith, inside)) rest)

get_at : (names : List (List ℕ)) (k : ℕ) (name : List ℕ) → slice_get names k ≡ Some name → get_or names k [] ≡ name
get_at names k name is = sym (unwrap_or-slice_get names k []) ∙ ap (λ (found : Option (List ℕ)). unwrap_or found []) is

pub new_name : (names : List (List ℕ)) (k : ℕ) (name : List ℕ) → slice_get names k ≡ Some name → AreApart [] names → has_name (take k names) name ≡ false
new_name names k name is apart =
    ap (has_name (take k names)) (sym (get_at names k name is)) ∙ at_apart [] names k [] (slice_get_within names k name is) apart

pub take_name : (names : List (List ℕ)) (k : ℕ) (name : List ℕ) → slice_get names k ≡ Some name → take (k + 1) names ≡ take k names ++ name ∷ []
take_name names k name is =
    let more : k + 1 ≡ suc k = omega arith in
    ap (λ (n : ℕ). take n names) more ∙ take-suc names k [] (slice_get_within names k name is)
    ∙ ap (λ (own : List ℕ). take k names ++ own ∷ []) (get_at names k name is)

-- ---- the table

-- nothing was made
pub makes_none : (machine : TruthData Function Symbols) → MakesMore machine machine
makes_none machine = record {
  shape = record { variables = refl; most = refl };
  extends = Extends-same machine.maker.graph.vertices;
  rests = record { parts = refl; marks = refl; highs = refl; lows = refl };
  states = λ column inside. refl;
  fits = λ g fits. fits;
}

-- a table without names
pub stand_none : (symbols : Symbols) (table : TableData) → table.functions ≡ [] → AreVariables symbols 0 table
stand_none symbols table none = record {
  inside = subst (All (IsFunctionOf symbols)) (sym none) (All-nil (IsFunctionOf symbols));
  truths = λ vars. ap (values_under symbols.graph.vertices vars) none;
}

-- one more, in a graph that has one function more
pub stand_more : (old new : TruthData Function Symbols) (k : ℕ) (table later : TableData) (name : List ℕ) (made : Function) → MakesMore old new →
    AreVariables old.maker k table → later ≡ with_named table name made → made.place < length new.maker.graph.vertices →
    ((vars : ℕ → Bool) → holds new.maker.graph.vertices vars made.place ≡ vars k) → AreVariables new.maker (k + 1) later
stand_more old new k table later name made makes stand is inside value =
    let was = old.maker.graph.vertices in
    let now = new.maker.graph.vertices in
    subst (AreVariables new.maker (k + 1)) (sym is)
    (record {
      inside = All-push (IsFunctionOf new.maker) table.functions made (AreInside-extends was now table.functions makes.extends stand.inside) inside;
      truths = λ vars.
          values_push now vars table.functions made
          ∙ ap₂ (λ (front : List Bool) (last : Bool). front ++ last ∷ [])
          (values_under-extends was now vars table.functions makes.extends stand.inside ∙ stand.truths vars) (value vars)
          ∙ sym (map-range_with_len_more vars 0 k k (omega arith));
    })

-- in a column its truth values are those that the column gives the variables
pub truths_at_start : (symbols : Symbols) (count : ℕ) (table : TableData) (column : ℕ) → AreVariables symbols count table → symbols.graph.variables ≡ count →
    values_under symbols.graph.vertices (valuation_of symbols.graph.variables column) table.functions ≡ truths_in count column
truths_at_start symbols count table column stand shape =
    stand.truths (valuation_of symbols.graph.variables column)
    ∙ ap (λ (n : ℕ). map (valuation_of n column) (range_with_len 0 count)) shape

-- all functions are kept
pub keeps_more : (old new : TruthData Function Symbols) → MakesMore old new → KeepsFunctions old.maker new.maker
keeps_more old new makes =
    functions-kept old.maker.graph.variables new.maker.graph.variables old.maker.graph.vertices new.maker.graph.vertices makes.shape.variables makes.extends

-- ---- serving

-- a session whose names stand for the variables is served from the start
pub serves_start : (d : SymbolData) → StandForVariables (maker_of d) (valuations_by d).variables d.names →
    (maker_of d).graph.variables ≡ length (valuations_by d).variables → ServesAlike d
serves_start d stand shape text same =
    let cut = file.cut_line text in
    let lines = file.lines_in text in
    let v : Valuations = valuations_of (read_of d.quiet cut lines) in
    let own : Valuations = valuations_by d in
    let names : d.names.names ≡ v.variables = stand.names ∙ ap (λ (vs : Valuations). vs.variables) same in
    let count : length own.variables ≡ length v.variables = ap (λ (vs : Valuations). length vs.variables) same in
    let truths : (column : ℕ) → column < v.columns → truths_by d column ≡ truths_in (length v.variables) column =
    λ column inside.
    truths_at_start (maker_of d) (length own.variables) d.names column stand.stand shape ∙ ap (λ (n : ℕ). truths_in n column) count in (
      no_names,
      subst (λ (vs : Valuations). IsServed d.quiet vs no_names d.names.names (truths_by d) cut (before_stop (stop_of d.quiet cut lines) lines)) (sym same)
          (served_alike d.quiet v no_names v.variables d.names.names (truths_in (length v.variables)) (truths_by d) cut (before_stop (stop_of d.quiet cut lines) lines)
          names truths (served_start d.quiet cut lines (rises-enumerated 0 (lines_of (front_of text))))),
    )

-- ---- the first line

-- no line has a number below 1
none_first : {A : Type 0} (number : ℕ) (lines : List (ℕ × A)) → number ≤ 1 → Rises 0 lines → filter (before number) lines ≡ []
none_first number [] few rises = refl
none_first number (own ∷ others) few (first, rest) =
    kept_if number own others false (not_before own.0 number (omega (arith, few, first)))
    ∙ none_first number others few (rises-later 0 own.0 others first rest)

-- if something was read that has a variable, there is a first line that is obeyed
module _ (quiet : Bool) (cut : Option ℕ) (text : List ℕ) (texts : List (List ℕ)) where
  abbrev lines : List (ℕ × List ℕ)
  lines = enumerate_from 1 (text ∷ texts)

  -- nothing is read before a line that is the first
  read_none : (stop : NamedStop) → stop_of quiet cut lines ≡ Some stop → nat_lt 1 stop.0 ≡ false → read_of quiet cut lines ≡ []
  read_none stop is past =
      ap (λ (at : Option NamedStop). map (λ (own : Asked). own.1) (before_stop at (asked_lines quiet cut lines))) is
      ∙ ap (map (λ (own : Asked). own.1))
      (none_first stop.0 (asked_lines quiet cut lines) (ltb-false 1 stop.0 past) (rises-asked quiet cut 0 lines (rises-enumerated 0 (text ∷ texts))))

  line_there : 0 < length (variables_of (read_of quiet cut lines)) → (stop : NamedStop) → stop_of quiet cut lines ≡ Some stop → (test : Bool) →
      nat_lt 1 stop.0 ≡ test → StopsAmong (before_stop (Some stop) lines) (Full 1)
  line_there some stop is true less = (text, [], filter (before stop.0) (enumerate_from 2 texts), kept_if stop.0 (1, text) (enumerate_from 2 texts) true less)
  line_there some stop is false past =
      absurd (let e : 0 < 0 = subst (λ (read : List (Option SymbolLine)). 0 < length (variables_of read)) (read_none stop is past) some in omega (arith, e))

  line_first : 0 < length (variables_of (read_of quiet cut lines)) → (stop : Option NamedStop) → stop_of quiet cut lines ≡ stop →
      StopsAmong (before_stop stop lines) (Full 1)
  line_first some None is = (text, [], enumerate_from 2 texts, refl)
  line_first some (Some stop) is = line_there some stop is (nat_lt 1 stop.0) refl

first_line : (quiet : Bool) (cut : Option ℕ) (texts : List (List ℕ)) → 0 < length (variables_of (read_of quiet cut (enumerate_from 1 texts))) →
    StopsAmong (before_stop (stop_of quiet cut (enumerate_from 1 texts)) (enumerate_from 1 texts)) (Full 1)
first_line quiet cut [] some = absurd (let e : 0 < 0 = some in omega (arith, e))
first_line quiet cut (text ∷ texts) some = line_first quiet cut text texts some (stop_of quiet cut (enumerate_from 1 (text ∷ texts))) refl

-- a fault at the start is at a line that is obeyed
pub among_start : (quiet : Bool) (text : List ℕ) (variables : List (List ℕ)) (why : SymbolFault) →
    variables ≡ variables_of (read_of quiet (file.cut_line text) (file.lines_in text)) → IsOwnFault 1 why → (why ≡ Full 1 → 0 < length variables) →
    StopsAmong (before_stop (stop_of quiet (file.cut_line text) (file.lines_in text)) (file.lines_in text)) why
among_start quiet text variables (Stopped stop) are own some = tt
among_start quiet text variables (Full number) are own some =
    let lines = before_stop (stop_of quiet (file.cut_line text) (file.lines_in text)) (file.lines_in text) in
    subst (λ (n : ℕ). StopsAmong lines (Full n)) (sym own)
    (first_line quiet (file.cut_line text) (lines_of (front_of text))
    (subst (λ (all : List (List ℕ)). 0 < length all) are (some (ap Full own))))

-- nor is it the hearer's
pub unwritten_start : (number : ℕ) (why : SymbolFault) → IsOwnFault number why → why ≢ Stopped Write
unwritten_start number (Stopped stop) own is = absurd (cc (own, is))
unwritten_start number (Full line) own is = absurd (cc (is))

pub own_start : (why : GraphFault) → IsOwnFault 1 (fault_at 1 why)
own_start graph.Full = refl
own_start graph.NoMemory = refl

pub full_start : (why : GraphFault) (count : ℕ) → (why ≡ graph.Full → 0 < count) → fault_at 1 why ≡ Full 1 → 0 < count
full_start graph.Full count some is = some refl
full_start graph.NoMemory count some is = absurd (cc (is))

-- ---- the pieces

-- a list of one
drop_one : {A : Type 0} (list : List A) → length list ≡ 1 → drop 1 list ≡ []
drop_one [] counted = refl
drop_one (own ∷ []) counted = refl
drop_one (own ∷ other ∷ more) counted = absurd (omega (arith, counted))

-- the function that holds nowhere
pub first_alone : (symbols : Symbols) (kept : List Function) (never : Function) → kept ≡ never ∷ [] → IsFunctionOf symbols never →
    ((column : ℕ) → column < columns_in symbols → function_holds symbols never column ≡ false) → IsFirstKept symbols kept
first_alone symbols kept never is inside nowhere =
    subst (IsFirstKept symbols) (sym is)
    (record {
      count = refl;
      inside = All-push (IsFunctionOf symbols) [] never (All-nil (IsFunctionOf symbols)) inside;
      never = nowhere;
    })

-- it goes on with a later maker
pub first_later : (old new : Symbols) (kept : List Function) → KeepsFunctions old new → IsFirstKept old kept → IsFirstKept new kept
first_later old new kept keeps is = record {
  count = is.count;
  inside = all_kept old new keeps kept is.inside;
  never = λ column inside.
      let within : column < columns_in old = subst (λ (n : ℕ). column < n) keeps.count inside in
      missed_kept old new keeps kept is.inside column within ∙ is.never column within;
}

-- the stage goes on with more functions
pub at_start : (symbols : Symbols) (circuit : CircuitData) (old new : StageData) → old.machine.maker ≡ symbols → old.built ≡ false →
    ((column : ℕ) → column < columns_on old → states_in old column ≡ (start_of circuit).state) → MakesMore old.machine new.machine → new.built ≡ old.built →
    IsAtStart symbols circuit new
at_start symbols circuit old new maker unbuilt states makes built = record {
  keeps = subst (λ (own : Symbols). KeepsFunctions own new.machine.maker) maker (keeps_more old.machine new.machine makes);
  shape = makes.shape.variables ∙ ap (λ (own : Symbols). own.graph.variables) maker;
  unbuilt = built ∙ unbuilt;
  states = λ column inside.
      let within : column < columns_on old = subst (λ (n : ℕ). column < 2 ^ n) makes.shape.variables inside in
      makes.states column within ∙ states column within;
}

-- ---- the session

module _ (d : SymbolData) (symbols : Symbols) (circuit : CircuitData) (variables : List (List ℕ)) (at : IsAtStart symbols circuit d.session.stage)
    (named : StandForVariables (maker_of d) variables d.names) (kept : IsFirstKept (maker_of d) d.kept) (unsaved : d.saves ≡ []) (uncounted : d.count ≡ 0)
    (shape : symbols.graph.variables ≡ length variables) (are : variables ≡ (valuations_by d).variables)
    (starts : (column : ℕ) → column < columns_on d.session.stage → column_of states_in d.session column ≡ start_of circuit) where
  -- it has the script's variables
  variables_there : (maker_of d).graph.variables ≡ length (valuations_by d).variables
  variables_there = at.shape ∙ shape ∙ ap length are

  -- it is well formed
  pub session_starts : IsSymbolSession d
  session_starts = record {
    shape = ap (λ (n : ℕ). 2 ^ n) variables_there;
    named = named.stand.inside;
    inside = kept.inside;
    missed = omega (arith, kept.count);
    counted = uncounted ∙ sym (ap (λ (own : SessionData). own.count) (starts 0 (pow_pos (maker_of d).graph.variables)));
    saved = subst (λ (saves : List Save). AreKeptRails (maker_of d) (nodes d.session.core.circuit.graph) saves (drop 1 d.kept)) (sym unsaved)
        (drop_one d.kept kept.count);
  }

  -- in each column the data are those of a start
  pub data_starts : (column : ℕ) → column < (valuations_by d).columns → data_of d column ≡ start_of circuit
  data_starts column within =
      let inside : column < columns_on d.session.stage = subst (λ (n : ℕ). column < 2 ^ n) (sym variables_there) within in
      ap₂ (λ (missed : Bool) (saves : List (List ℕ × List Tern)). record (column_of states_in d.session column) { missed = missed; saves = saves })
      (kept.never column inside) (ap (λ (saves : List Save). saves_by (maker_of d) saves (drop 1 d.kept) column) unsaved)
      ∙ ap (λ (own : SessionData). record own { missed = false; saves = [] }) (starts column inside)

  -- and it is served from there
  pub serves_starts : ServesAlike d
  serves_starts =
      serves_start d
      (record {
        names = named.names ∙ are;
        stand = subst (λ (n : ℕ). AreVariables (maker_of d) n d.names) (ap length are) named.stand;
      })
      variables_there

-- the pieces make a session at its start
pub record HasStarted (d : SymbolData) (symbols : Symbols) (circuit : CircuitData) : Type 0 where
  pub session : IsSymbolSession d
  pub starts : (column : ℕ) → column < (valuations_by d).columns → data_of d column ≡ start_of circuit
  pub serves : ServesAlike d
  pub keeps : KeepsFunctions symbols (maker_of d)

pub started : (d : SymbolData) (symbols : Symbols) (circuit : CircuitData) (variables : List (List ℕ)) (stage : StageData) → d.session.stage ≡ stage →
    IsAtStart symbols circuit stage → StandForVariables stage.machine.maker variables d.names → IsFirstKept stage.machine.maker d.kept → d.saves ≡ [] →
    d.count ≡ 0 → symbols.graph.variables ≡ length variables → variables ≡ (valuations_by d).variables →
    ((column : ℕ) → column < columns_on stage → column_of states_in d.session column ≡ start_of circuit) → HasStarted d symbols circuit
started d symbols circuit variables stage same at named kept unsaved uncounted shape are starts =
    let own_at = subst (IsAtStart symbols circuit) (sym same) at in
    let own_named = subst (λ (own : StageData). StandForVariables own.machine.maker variables d.names) (sym same) named in
    let own_kept = subst (λ (own : StageData). IsFirstKept own.machine.maker d.kept) (sym same) kept in
    let own_starts : (column : ℕ) → column < columns_on d.session.stage → column_of states_in d.session column ≡ start_of circuit =
    λ column inside. starts column (subst (λ (own : StageData). column < columns_on own) same inside) in
    record {
      session = session_starts d symbols circuit variables own_at own_named own_kept unsaved uncounted shape are own_starts;
      starts = data_starts d symbols circuit variables own_at own_named own_kept unsaved uncounted shape are own_starts;
      serves = serves_starts d symbols circuit variables own_at own_named own_kept unsaved uncounted shape are own_starts;
      keeps = own_at.keeps;
    }

-- ---- a fault at the start

pub among_fault : {T : Type 0} (quiet : Bool) (text : List ℕ) (variables : List (List ℕ)) (result : Result T SymbolFault) →
    variables ≡ variables_of (read_of quiet (file.cut_line text) (file.lines_in text)) → IfErr result (IsOwnFault 1) →
    IfErr result (λ why. why ≡ Full 1 → 0 < length variables) →
    IfErr result (StopsAmong (before_stop (stop_of quiet (file.cut_line text) (file.lines_in text)) (file.lines_in text)))
among_fault quiet text variables (Ok session) are own some = tt
among_fault quiet text variables (Err why) are own some = among_start quiet text variables why are own some

pub unwritten_fault : {T : Type 0} (number : ℕ) (result : Result T SymbolFault) → IfErr result (IsOwnFault number) → IfErr result (λ why. why ≢ Stopped Write)
unwritten_fault number (Ok session) own = tt
unwritten_fault number (Err why) own = unwritten_start number why own

-- ---- a start

-- what a start with a text answers
module _ (quiet : Bool) (script text : List ℕ) (is : script ≡ text) where
  pub start_valuations : (result : Result SymbolData SymbolFault) → IfOk result (λ d. d.quiet ≡ quiet) → IfOk result (λ d. d.text ≡ script) →
      IfOk result (λ d. valuations_by d ≡ valuations_of (read_of quiet (file.cut_line text) (file.lines_in text)))
  start_valuations (Ok d) own same =
      ap (λ (one : Bool). valuations_of (read_of one (file.cut_line d.text) (file.lines_in d.text))) own
      ∙ ap (λ (list : List ℕ). valuations_of (read_of quiet (file.cut_line list) (file.lines_in list))) (same ∙ is)
  start_valuations (Err why) own same = tt

  pub start_serves : (result : Result SymbolData SymbolFault) → IfOk result (λ d. d.quiet ≡ quiet) → IfOk result (λ d. d.text ≡ script) →
      IfOk result ServesAlike → IfOk result (λ d. ServesLines d (file.cut_line text)
      (before_stop (stop_of quiet (file.cut_line text) (file.lines_in text)) (file.lines_in text)))
  start_serves (Ok d) own same serves =
      subst (λ (one : Bool). ServesLines d (file.cut_line text) (before_stop (stop_of one (file.cut_line text) (file.lines_in text)) (file.lines_in text))) own
      (serves text (ap (λ (list : List ℕ). valuations_of (read_of d.quiet (file.cut_line list) (file.lines_in list))) (same ∙ is)))
  start_serves (Err why) own same serves = tt

-- ---- a quiet start

-- a maker whose columns are the valuations of a script has its variables
pub variables_valued : (symbols : Symbols) (read : List (Option SymbolLine)) → AreValuationsOf symbols (valuations_of read) →
    symbols.graph.variables ≡ length (variables_of read)
variables_valued symbols read valued =
    let n = symbols.graph.variables in
    let m = length (variables_of read) in
    sym (length-map-range_with_len (valuation_of n 0) 0 n) ∙ ap (λ (truths : List Bool). length truths) (sym (valued.truths 0))
    ∙ length-map-range_with_len (valuation_of m 0) 0 m

module _ (d : SymbolData) (start : StartData) (quiet : d.quiet ≡ true) (same : d.text ≡ start.text) where
  pub quiet_valuations : valuations_by d ≡ valuations_at_start start
  quiet_valuations =
      ap (λ (own : Bool). valuations_of (read_of own (file.cut_line d.text) (file.lines_in d.text))) quiet
      ∙ ap (λ (text : List ℕ). valuations_of (read_of true (file.cut_line text) (file.lines_in text))) same

  pub quiet_starts : ((column : ℕ) → column < (valuations_by d).columns → data_of d column ≡ start_of start.circuit) → (column : ℕ) →
      column < (valuations_at_start start).columns → data_of d column ≡ data_at_start start
  quiet_starts starts column inside = starts column (subst (λ (v : Valuations). column < v.columns) (sym quiet_valuations) inside)

  pub quiet_serves : ServesAlike d → (text : List ℕ) → valuations_at_start start ≡ valuations_of (read_of true (file.cut_line text) (file.lines_in text)) →
      ServesLines d (file.cut_line text) (before_stop (stop_of true (file.cut_line text) (file.lines_in text)) (file.lines_in text))
  quiet_serves serves text are =
      let back : valuations_of (read_of true (file.cut_line text) (file.lines_in text)) ≡ valuations_of (read_of d.quiet (file.cut_line text) (file.lines_in text)) =
      ap (λ (own : Bool). valuations_of (read_of own (file.cut_line text) (file.lines_in text))) (sym quiet) in
      subst (λ (own : Bool). ServesLines d (file.cut_line text) (before_stop (stop_of own (file.cut_line text) (file.lines_in text)) (file.lines_in text))) quiet
      (serves text (quiet_valuations ∙ are ∙ back))

-- a fault at the start is at a line of any script that has the valuations
pub among_alike : {T : Type 0} (start : StartData) (variables : List (List ℕ)) (result : Result T SymbolFault) → variables ≡ (valuations_at_start start).variables →
    IfErr result (IsOwnFault 1) → IfErr result (λ why. why ≡ Full 1 → 0 < length variables) → IfErr result (λ why. (text : List ℕ) →
    valuations_at_start start ≡ valuations_of (read_of true (file.cut_line text) (file.lines_in text)) →
    StopsAmong (before_stop (stop_of true (file.cut_line text) (file.lines_in text)) (file.lines_in text)) why)
among_alike start variables (Ok session) are own some = tt
among_alike start variables (Err why) are own some = λ text same.
    among_start true text variables why (are ∙ ap (λ (v : Valuations). v.variables) same) own some

-- what a start in a circuit answers
module _ (start : StartData) where
  pub answers_valuations : (result : Result SymbolData SymbolFault) → IfOk result (λ d. d.quiet ≡ true) → IfOk result (λ d. d.text ≡ start.text) →
      IfOk result (λ d. valuations_by d ≡ valuations_at_start start)
  answers_valuations (Ok d) quiet text = quiet_valuations d start quiet text
  answers_valuations (Err why) quiet text = tt

  pub answers_starts : (result : Result SymbolData SymbolFault) → IfOk result (λ d. d.quiet ≡ true) → IfOk result (λ d. d.text ≡ start.text) →
      IfOk result (λ d. (column : ℕ) → column < (valuations_by d).columns → data_of d column ≡ start_of start.circuit) →
      IfOk result (λ d. (column : ℕ) → column < (valuations_at_start start).columns → data_of d column ≡ data_at_start start)
  answers_starts (Ok d) quiet text starts = quiet_starts d start quiet text starts
  answers_starts (Err why) quiet text starts = tt

  pub answers_serves : (result : Result SymbolData SymbolFault) → IfOk result (λ d. d.quiet ≡ true) → IfOk result (λ d. d.text ≡ start.text) →
      IfOk result ServesAlike → IfOk result (λ d. (text : List ℕ) →
      valuations_at_start start ≡ valuations_of (read_of true (file.cut_line text) (file.lines_in text)) →
      ServesLines d (file.cut_line text) (before_stop (stop_of true (file.cut_line text) (file.lines_in text)) (file.lines_in text)))
  answers_serves (Ok d) quiet text serves = quiet_serves d start quiet text serves
  answers_serves (Err why) quiet text serves = tt
