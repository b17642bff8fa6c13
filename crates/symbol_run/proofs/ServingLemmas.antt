-- A session is served with the lines of a script before the one that is refused by its names, from the start, and with those behind each line that
-- is read; and the names of a line have by its table the truth values that they have in the whole script.
use Rattle.std.proofs.Common.{◌≡◌, ℕ, ◌<◌, ◌≤◌, Bool, true, false, List, [], ◌∷◌, ◌++◌, length, map, filter, nat_lt, All, Option, None, Some, option_map, Result, Ok, Err, refl, sym, ap, ◌∙◌, arith, append-nil, append_assoc, if◌then◌else◌}
use Rattle.std.specs.List.{cons_option}
use Rattle.std.proofs.lemmas.Bool.{ltb-false, ltb-true}
use Rattle.std.proofs.lemmas.List.FromFn.{length-map-range_with_len}
use Rattle.truth_makers.specs.Valuations.{valuation_of}
use Rattle.std.proofs.lemmas.List.Elements.{All-weaker}
use Rattle.line_words.specs.Files.{is_cut}
use Rattle.script_lang.specs.declared.command.ScriptFault.{ScriptFault}
use Rattle.formulas.specs.declared.formula.Part.{Part}
use Rattle.formula_functions.specs.Tables.{value_named}
use Rattle.formula_functions.specs.Truths.{truth_of}
use Rattle.symbol_lines.specs.declared.commands.SymbolCommand.TheVariants.{Variables, Let, Vertices}
use Rattle.symbol_lines.specs.declared.names.NameFault.{NameFault}
use Rattle.symbol_lines.specs.Names.{NamesData, has_name, names_fault, no_names, unless_fault, with_line, with_lines, with_name, with_names}
use Rattle.symbol_script.specs.declared.line.SymbolLine.{SymbolLine}
use Rattle.symbol_script.specs.declared.line.SymbolLine.TheVariants as asks
use Rattle.symbol_script.specs.Lines.{names_of_line, symbol_reading_of}
use Rattle.symbol_meaning.specs.Readings.{Valuations, truths_in, valuations_of, values_with}
use Rattle.symbol_meaning.specs.Scripts.{NamedStop, and_others, asked_lines, before_stop, definition_in, definitions_of, first_by_names, read_of, stop_of, this_or}
use Rattle.symbol_reading.proofs.ReadingLemmas.{Asked, before, front_kept, is_before, kept_if, none_before, not_before, rises-asked, Rises}
use Rattle.symbol_run.specs.Serving.{names_after, read_behind, truths_after, IsServed}
use Rattle.symbol_run.proofs.NamedLemmas.{counted_push, defined_stay, named_kept, used_known}

-- ---- the lines before the one that is refused by its names

-- lines whose numbers are greater than one have greater ones than each below it
rises_from : {A : Type 0} (own other : ℕ) (lines : List (ℕ × A)) → own ≤ other → Rises other lines → Rises own lines
rises_from own other [] less rises = tt
rises_from own other (next ∷ lines) less (first, rest) = (omega (arith, less, first), rest)

-- none of these stands before it
none_kept : {A : Type 0} (number : ℕ) (own : ℕ × A) (others : List (ℕ × A)) → number ≤ own.0 → Rises own.0 others → filter (before number) (own ∷ others) ≡ []
none_kept number own others past rises =
    kept_if number own others false (not_before own.0 number past) ∙ none_before number others (rises_from number own.0 others past rises)

-- a line is asked for, or it ends what is asked for
asked_kept : (number : ℕ) (own : ℕ × List ℕ) (cut : Bool) (reading : Result (Option SymbolLine) ScriptFault) (later kept : List Asked) → own.0 < number →
    kept ≡ filter (before number) later →
    (if cut then [] else and_others own.0 reading kept) ≡ filter (before number) (if cut then [] else and_others own.0 reading later)
asked_kept number own true reading later kept less same = refl
asked_kept number own false (Err fault) later kept less same = refl
asked_kept number own false (Ok asked) later kept less same =
    ap (λ (others : List Asked). (own.0, asked) ∷ others) same ∙ sym (kept_if number (own.0, asked) later true (is_before own.0 number less))

-- none is kept of what a line past it asks for, and those behind it
asked_past : (number own : ℕ) (cut : Bool) (reading : Result (Option SymbolLine) ScriptFault) (later : List Asked) → number ≤ own → Rises own later →
    filter (before number) (if cut then [] else and_others own reading later) ≡ []
asked_past number own true reading later past rises = refl
asked_past number own false (Err fault) later past rises = refl
asked_past number own false (Ok asked) later past rises = none_kept number (own, asked) later past rises

-- what the lines before it ask for is what stands before it of what all ask for
front_filtered : (quiet : Bool) (cut : Option ℕ) (number first : ℕ) (lines : List (ℕ × List ℕ)) → Rises first lines →
    asked_lines quiet cut (filter (before number) lines) ≡ filter (before number) (asked_lines quiet cut lines)
front_filtered quiet cut number first [] rises = refl
front_filtered quiet cut number first (own ∷ lines) (less, rest) =
    by (nat_lt own.0 number) (front_filtered quiet cut number own.0 lines rest) refl
  where
    by : (test : Bool) → asked_lines quiet cut (filter (before number) lines) ≡ filter (before number) (asked_lines quiet cut lines) →
        nat_lt own.0 number ≡ test →
        asked_lines quiet cut (filter (before number) (own ∷ lines)) ≡ filter (before number) (asked_lines quiet cut (own ∷ lines))
    by true later is =
        ap (asked_lines quiet cut) (kept_if number own lines true is)
        ∙ asked_kept number own (is_cut cut own.0) (symbol_reading_of quiet own.1) (asked_lines quiet cut lines) (asked_lines quiet cut (filter (before number) lines))
        (ltb-true own.0 number is) later
    by false later is =
        let past : number ≤ own.0 = ltb-false own.0 number is in
        ap (asked_lines quiet cut) (none_kept number own lines past rest)
        ∙ sym (asked_past number own.0 (is_cut cut own.0) (symbol_reading_of quiet own.1) (asked_lines quiet cut lines) past (rises-asked quiet cut own.0 lines rest))

front_asked : (quiet : Bool) (cut : Option ℕ) (stop : Option NamedStop) (lines : List (ℕ × List ℕ)) → Rises 0 lines →
    asked_lines quiet cut (before_stop stop lines) ≡ before_stop stop (asked_lines quiet cut lines)
front_asked quiet cut None lines rises = refl
front_asked quiet cut (Some stop) lines rises = front_filtered quiet cut stop.0 0 lines rises

-- none of them is refused by its names
none_refused : (d : NamesData) (number : ℕ) (asked : List Asked) → Rises number asked →
    first_by_names d (before_stop (first_by_names d asked) asked) ≡ None
none_refused d number [] rises = refl
none_refused d number (own ∷ others) (first, rest) =
    by (names_fault d (names_of_line own.1)) refl (none_refused (with_line d (names_of_line own.1)) own.0 others rest)
  where
    by : (found : Option NameFault) → names_fault d (names_of_line own.1) ≡ found → first_by_names (with_line d (names_of_line own.1)) (before_stop (first_by_names (with_line d (names_of_line own.1)) others) others) ≡ None →
        first_by_names d (before_stop (this_or (option_map (λ fault. (own.0, fault)) found) (first_by_names (with_line d (names_of_line own.1)) others)) (own ∷ others)) ≡ None
    by (Some fault) is later = ap (first_by_names d) (none_kept own.0 own others (omega arith) rest)
    by None is later =
        ap (first_by_names d) (front_kept (with_line d (names_of_line own.1)) own others (first_by_names (with_line d (names_of_line own.1)) others) rest refl)
        ∙ ap (λ (found : Option NameFault). this_or (option_map (λ fault. (own.0, fault)) found)
        (first_by_names (with_line d (names_of_line own.1)) (before_stop (first_by_names (with_line d (names_of_line own.1)) others) others))) is ∙ later

-- so a session is served with them from the start
pub served_start : (quiet : Bool) (cut : Option ℕ) (lines : List (ℕ × List ℕ)) → Rises 0 lines →
    IsServed quiet (valuations_of (read_of quiet cut lines)) no_names (valuations_of (read_of quiet cut lines)).variables
    (truths_in (length (valuations_of (read_of quiet cut lines)).variables)) cut (before_stop (stop_of quiet cut lines) lines)
served_start quiet cut lines rises =
    let v : Valuations = valuations_of (read_of quiet cut lines) in
    let stop : Option NamedStop = stop_of quiet cut lines in
    let front : asked_lines quiet cut (before_stop stop lines) ≡ before_stop stop (asked_lines quiet cut lines) = front_asked quiet cut stop lines rises in
    record {
      table = sym (append-nil v.variables);
      counted = λ column inside. truths_counted (length v.variables) column;
      right = ap (first_by_names no_names) front ∙ none_refused no_names 0 (asked_lines quiet cut lines) (rises-asked quiet cut 0 lines rises);
      variables = ap (λ (asked : List Asked). (with_lines (map names_of_line (map (λ (own : Asked). own.1) asked)) no_names).variables) front;
      values = λ column inside.
          ap (λ (asked : List Asked). values_with v.variables (truths_in (length v.variables) column) (definitions_of (map (λ (own : Asked). own.1) asked))) front;
    }
  where
    truths_counted : (variables column : ℕ) → length (truths_in variables column) ≡ variables
    truths_counted variables column = length-map-range_with_len (valuation_of variables column) 0 variables

-- ---- a line of them

-- a line that is read comes first of what is asked for
asked_first : (quiet : Bool) (cut : Option ℕ) (line : ℕ × List ℕ) (rest : List (ℕ × List ℕ)) (asked : Option SymbolLine) → is_cut cut line.0 ≡ false →
    symbol_reading_of quiet line.1 ≡ Ok asked → asked_lines quiet cut (line ∷ rest) ≡ (line.0, asked) ∷ asked_lines quiet cut rest
asked_first quiet cut line rest asked whole reads =
    ap (λ (test : Bool). if test then [] else and_others line.0 (symbol_reading_of quiet line.1) (asked_lines quiet cut rest)) whole
    ∙ ap (λ (reading : Result (Option SymbolLine) ScriptFault). and_others line.0 reading (asked_lines quiet cut rest)) reads

-- it isn't refused by its names, nor is one behind it
neither_refused : (number : ℕ) (found : Option NameFault) (later : Option NamedStop) → this_or (option_map (λ fault. (number, fault)) found) later ≡ None →
    (found ≡ None) × (later ≡ None)
neither_refused number None later is = (refl, is)
neither_refused number (Some fault) later is = absurd (cc)

-- what is defined behind a line
names_keep : (names : List (List ℕ)) (d : NamesData) → (with_names names d).defined ≡ d.defined
names_keep [] d = refl
names_keep (own ∷ names) d = names_keep names (with_name d own) ∙ defined_stay d own

defined_after : (d : NamesData) (asked : Option SymbolLine) → (with_line d (names_of_line asked)).defined ≡ names_after (definition_in asked) d.defined
defined_after d None = refl
defined_after d (Some (asks.Values verb list)) = names_keep (names_of_line (Some (asks.Values verb list))).used d
defined_after d (Some (asks.Names (Variables names))) = names_keep names d
defined_after d (Some (asks.Names (Let name parts))) =
    ap (λ (defined : List (List ℕ)). defined ++ name ∷ []) (names_keep (names_of_line (Some (asks.Names (Let name parts)))).used d)
defined_after d (Some (asks.Names (Vertices number))) = refl
defined_after d (Some (asks.Plain command)) = refl

-- so the table has its definition behind the others
table_after : (definition : Option (List ℕ × List Part)) (names variables defined : List (List ℕ)) → names ≡ variables ++ defined →
    names_after definition names ≡ variables ++ names_after definition defined
table_after None names variables defined is = is
table_after (Some own) names variables defined is = ap (λ (table : List (List ℕ)). table ++ own.0 ∷ []) is ∙ append_assoc variables defined (own.0 ∷ [])

counted_after : (definition : Option (List ℕ × List Part)) (names : List (List ℕ)) (truths : List Bool) → length truths ≡ length names →
    length (truths_after definition names truths) ≡ length (names_after definition names)
counted_after None names truths counted = counted
counted_after (Some own) names truths counted = counted_push names truths own.0 (truth_of (value_named names truths) own.1) counted

values_after : (definition : Option (List ℕ × List Part)) (names : List (List ℕ)) (truths : List Bool) (others : List (List ℕ × List Part)) →
    values_with (names_after definition names) (truths_after definition names truths) others ≡ values_with names truths (cons_option definition others)
values_after None names truths others = refl
values_after (Some own) names truths others = refl

module _ (quiet : Bool) (v : Valuations) (d : NamesData) (names : List (List ℕ)) (truths : ℕ → List Bool) (cut : Option ℕ) (line : ℕ × List ℕ)
    (rest : List (ℕ × List ℕ)) (asked : Option SymbolLine) (served : IsServed quiet v d names truths cut (line ∷ rest)) (whole : is_cut cut line.0 ≡ false)
    (reads : symbol_reading_of quiet line.1 ≡ Ok asked) where
  -- this line first
  first_here : asked_lines quiet cut (line ∷ rest) ≡ (line.0, asked) ∷ asked_lines quiet cut rest
  first_here = asked_first quiet cut line rest asked whole reads

  right_here : (names_fault d (names_of_line asked) ≡ None) × (first_by_names (with_line d (names_of_line asked)) (asked_lines quiet cut rest) ≡ None)
  right_here =
      neither_refused line.0 (names_fault d (names_of_line asked)) (first_by_names (with_line d (names_of_line asked)) (asked_lines quiet cut rest))
      (sym (ap (first_by_names d) first_here) ∙ served.right)

  variables_here : (with_lines (names_of_line asked ∷ map names_of_line (read_behind quiet cut rest)) d).variables ≡ v.variables
  variables_here =
      sym (ap (λ (all : List Asked). (with_lines (map names_of_line (map (λ (own : Asked). own.1) all)) d).variables) first_here) ∙ served.variables

  -- the session is served with those behind it
  pub served_next : IsServed quiet v (with_line d (names_of_line asked)) (names_after (definition_in asked) names)
      (λ column. truths_after (definition_in asked) names (truths column)) cut rest
  served_next =
      let next : NamesData = with_line d (names_of_line asked) in
      record {
        table = table_after (definition_in asked) names v.variables d.defined served.table
            ∙ ap (λ (defined : List (List ℕ)). v.variables ++ defined) (sym (defined_after d asked));
        counted = λ column inside. counted_after (definition_in asked) names (truths column) (served.counted column inside);
        right = right_here.1;
        variables = sym (ap (λ (fault : Option NameFault). (unless_fault fault (with_lines (map names_of_line (read_behind quiet cut rest)) next) d).variables)
            right_here.0) ∙ variables_here;
        values = λ column inside. values_after (definition_in asked) names (truths column) (definitions_of (read_behind quiet cut rest))
            ∙ sym (ap (λ (all : List Asked). values_with names (truths column) (definitions_of (map (λ (own : Asked). own.1) all))) first_here)
            ∙ served.values column inside;
      }

  -- and its names have their truth values by the table
  pub served_names : (column : ℕ) → column < v.columns →
      All (λ name. v.values column name ≡ value_named names (truths column) name) (names_of_line asked).used
  served_names column inside =
      All-weaker (λ name. has_name ((with_lines (names_of_line asked ∷ map names_of_line (read_behind quiet cut rest)) d).variables ++ d.defined) name ≡ true)
      (λ name. v.values column name ≡ value_named names (truths column) name)
      (λ name known. sym (ap (λ (values : List ℕ → Bool). values name) (served.values column inside))
      ∙ named_kept names (truths column) (definitions_of (read_behind quiet cut (line ∷ rest))) name (served.counted column inside)
      (ap (λ (table : List (List ℕ)). has_name table name) (served.table ∙ ap (λ (variables : List (List ℕ)). variables ++ d.defined) (sym variables_here)) ∙ known))
      (names_of_line asked).used (used_known d (names_of_line asked) (map names_of_line (read_behind quiet cut rest)) right_here.0)
