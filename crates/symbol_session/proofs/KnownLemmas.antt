-- The names of a line that is served: they have their truth values by the table, a name that is defined isn't there yet, and behind the line the session is
-- served with the lines behind it.
use Rattle.std.proofs.Common.{◌≡◌, ℕ, ◌<◌, Bool, true, false, ◌||◌, List, [], ◌∷◌, length, map, bytes_eq, Option, None, Some, Ok, inl, inr, refl, sym, ap, ◌∙◌, if◌then◌else◌}
use Rattle.std.specs.Prelude.{nat_lt, option_map, Result}
use Rattle.std.proofs.lemmas.Bool.{cases_Bool, ltb-false, ltb-true}
use Rattle.std.proofs.lemmas.List.Folds.{list_any-append}
use Rattle.std.proofs.lemmas.Slice.Eq.{bytes_eq-Decides}
use Rattle.std.proofs.Math.Bool.{or-false, or-true}
use Rattle.line_words.specs.Files.{is_cut}
use Rattle.script_lang.specs.declared.command.ScriptFault.{ScriptFault}
use Rattle.formulas.specs.declared.formula.Part.{Part}
use Rattle.symbol_lines.specs.declared.commands.SymbolCommand.TheVariants.{Variables, Let, Vertices}
use Rattle.symbol_lines.specs.declared.names.NameFault.{NameFault}
use Rattle.symbol_lines.specs.declared.names.NameFault.TheVariants.{NameDefined, TooManyVariables}
use Rattle.symbol_lines.specs.declared.TheConstants.{MOST_VARIABLES}
use Rattle.symbol_lines.specs.Names.{LineData, NamesData, definition_fault, has_name, names_fault, unless_fault, with_definition, with_line, with_lines, with_name, with_names}
use Rattle.symbol_lines.proofs.NameLemmas.{has_name_push, names_fault_few, names_fault_many, neither, with_name_new, with_name_there}
use Rattle.symbol_script.specs.declared.line.SymbolLine.{SymbolLine}
use Rattle.symbol_script.specs.declared.line.SymbolLine.TheVariants as asks
use Rattle.symbol_script.specs.Lines.{names_of_asked, names_of_line, symbol_reading_of}
use Rattle.symbol_meaning.specs.Readings.{Valuations, values_with}
use Rattle.symbol_meaning.specs.Scripts.{NamedStop, and_others, asked_lines, definition_in, definitions_of, first_by_names, this_or}
use Rattle.symbol_run.specs.Serving.{IsServed, read_behind}
use Rattle.symbol_run.proofs.NamedLemmas.{defined_stay}
use Rattle.symbol_run.proofs.ServingLemmas.{served_names}
use Rattle.symbol_session.specs.Asked.{IsKnown}

-- ---- a name that is defined is no variable, for good

-- another name that appears doesn't make it one
name_out : (d : NamesData) (own name : List ℕ) → has_name d.defined name ≡ true → has_name (with_name d own).variables name ≡ has_name d.variables name
name_out d own name there =
    elim (cases_Bool (has_name d.defined own || has_name d.variables own)) [
      | inl before ↦ ap (λ (names : NamesData). has_name names.variables name) (with_name_there d own before)
      | inr absent ↦ ap (λ (names : NamesData). has_name names.variables name) (with_name_new d own absent) ∙ has_name_push d.variables own name
          ∙ ap (λ (test : Bool). has_name d.variables name || test) (differs (bytes_eq name own) refl (neither (has_name d.defined own) (has_name d.variables own) absent).0)
          ∙ or-false (has_name d.variables name)
    ]
  where
    differs : (test : Bool) → bytes_eq name own ≡ test → has_name d.defined own ≡ false → bytes_eq name own ≡ false
    differs false is absent = is
    differs true is absent =
        let same : name ≡ own = (bytes_eq-Decides name own).0 is in
        let other : has_name d.defined own ≡ true = sym (ap (has_name d.defined) same) ∙ there in
        absurd (cc)

names_out : (names : List (List ℕ)) (d : NamesData) (name : List ℕ) → has_name d.defined name ≡ true →
    has_name (with_names names d).variables name ≡ has_name d.variables name
names_out [] d name there = refl
names_out (own ∷ names) d name there =
    names_out names (with_name d own) name (ap (λ (defined : List (List ℕ)). has_name defined name) (defined_stay d own) ∙ there) ∙ name_out d own name there

names_stay : (names : List (List ℕ)) (d : NamesData) → (with_names names d).defined ≡ d.defined
names_stay [] d = refl
names_stay (own ∷ names) d = names_stay names (with_name d own) ∙ defined_stay d own

-- nor does a line
definition_out : (defines : Option (List ℕ)) (d : NamesData) → (with_definition d defines).variables ≡ d.variables
definition_out None d = refl
definition_out (Some own) d = refl

definition_there : (defines : Option (List ℕ)) (d : NamesData) (name : List ℕ) → has_name d.defined name ≡ true → has_name (with_definition d defines).defined name ≡ true
definition_there None d name there = there
definition_there (Some own) d name there = has_name_push d.defined own name ∙ ap (λ (test : Bool). test || bytes_eq name own) there

lines_out : (lines : List LineData) (d : NamesData) (name : List ℕ) → has_name d.defined name ≡ true →
    has_name (with_lines lines d).variables name ≡ has_name d.variables name
lines_out [] d name there = refl
lines_out (line ∷ lines) d name there =
    let used : has_name (with_names line.used d).defined name ≡ true = ap (λ (defined : List (List ℕ)). has_name defined name) (names_stay line.used d) ∙ there in
    by (names_fault d line)
    (lines_out lines (with_line d line) name (definition_there line.defines (with_names line.used d) name used)
    ∙ ap (λ (variables : List (List ℕ)). has_name variables name) (definition_out line.defines (with_names line.used d)) ∙ names_out line.used d name there)
  where
    by : (fault : Option NameFault) → has_name (with_lines lines (with_line d line)).variables name ≡ has_name d.variables name →
        has_name (unless_fault fault (with_lines lines (with_line d line)) d).variables name ≡ has_name d.variables name
    by None later = later
    by (Some fault) later = refl

-- ---- a line that is served

asked_first : (quiet : Bool) (cut : Option ℕ) (line : ℕ × List ℕ) (rest : List (ℕ × List ℕ)) (asked : Option SymbolLine) → is_cut cut line.0 ≡ false →
    symbol_reading_of quiet line.1 ≡ Ok asked → asked_lines quiet cut (line ∷ rest) ≡ (line.0, asked) ∷ asked_lines quiet cut rest
asked_first quiet cut line rest asked whole reads =
    ap (λ (test : Bool). if test then [] else and_others line.0 (symbol_reading_of quiet line.1) (asked_lines quiet cut rest)) whole
    ∙ ap (λ (reading : Result (Option SymbolLine) ScriptFault). and_others line.0 reading (asked_lines quiet cut rest)) reads

no_fault : (number : ℕ) (found : Option NameFault) (later : Option NamedStop) → this_or (option_map (λ fault. (number, fault)) found) later ≡ None → found ≡ None
no_fault number None later is = refl
no_fault number (Some fault) later is = absurd (cc)

-- a name that a line may define was neither a variable then nor defined
may_define : (d : NamesData) (line : LineData) (name : List ℕ) → line.defines ≡ Some name → names_fault d line ≡ None →
    (has_name (with_names line.used d).defined name ≡ false) × (has_name (with_names line.used d).variables name ≡ false)
may_define d line name defines right =
    elim (cases_Bool (nat_lt MOST_VARIABLES (length (with_names line.used d).variables))) [
      | inl many ↦ absurd (let e : Some TooManyVariables ≡ None = sym (names_fault_many d line (ltb-true MOST_VARIABLES _ many)) ∙ right in cc)
      | inr less ↦ by (sym (names_fault_few d line (ltb-false MOST_VARIABLES _ less) ∙ ap (definition_fault (with_names line.used d)) defines) ∙ right)
    ]
  where
    by : definition_fault (with_names line.used d) (Some name) ≡ None →
        (has_name (with_names line.used d).defined name ≡ false) × (has_name (with_names line.used d).variables name ≡ false)
    by free =
        elim (cases_Bool (has_name (with_names line.used d).defined name || has_name (with_names line.used d).variables name)) [
          | inl there ↦ absurd (let e : Some NameDefined ≡ None = sym (ap (λ (test : Bool). if test then Some NameDefined else None) there) ∙ free in cc)
          | inr absent ↦ neither _ _ absent
        ]

module _ (quiet : Bool) (v : Valuations) (d : NamesData) (names : List (List ℕ)) (truths : ℕ → List Bool) (cut : Option ℕ) (line : ℕ × List ℕ)
    (rest : List (ℕ × List ℕ)) (asked : SymbolLine) (served : IsServed quiet v d names truths cut (line ∷ rest)) (whole : is_cut cut line.0 ≡ false)
    (reads : symbol_reading_of quiet line.1 ≡ Ok (Some asked)) where
  first_here : asked_lines quiet cut (line ∷ rest) ≡ (line.0, Some asked) ∷ asked_lines quiet cut rest
  first_here = asked_first quiet cut line rest (Some asked) whole reads

  right_here : names_fault d (names_of_asked asked) ≡ None
  right_here = no_fault line.0 (names_fault d (names_of_asked asked)) (first_by_names (with_line d (names_of_asked asked)) (asked_lines quiet cut rest))
      (sym (ap (first_by_names d) first_here) ∙ served.right)

  variables_here : (with_lines (map names_of_line (read_behind quiet cut rest)) (with_line d (names_of_asked asked))).variables ≡ v.variables
  variables_here =
      sym (ap (λ (fault : Option NameFault). (unless_fault fault (with_lines (map names_of_line (read_behind quiet cut rest)) (with_line d (names_of_asked asked))) d).variables)
      right_here)
      ∙ sym (ap (λ (all : List (ℕ × Option SymbolLine)). (with_lines (map names_of_line (map (λ (own : ℕ × Option SymbolLine). own.1) all)) d).variables) first_here)
      ∙ served.variables

  -- a name that it defines isn't in the table
  fresh_here : (name : List ℕ) → (names_of_asked asked).defines ≡ Some name → has_name names name ≡ false
  fresh_here name defines =
      let l : LineData = names_of_asked asked in
      let used : NamesData = with_names l.used d in
      let (undefined, unused) = may_define d l name defines right_here in
      let behind : has_name (with_line d l).defined name ≡ true =
      ap (λ (defined : Option (List ℕ)). has_name (with_definition used defined).defined name) defines ∙ has_name_push used.defined name name
      ∙ ap (λ (test : Bool). has_name used.defined name || test) ((bytes_eq-Decides name name).1 refl) ∙ or-true (has_name used.defined name) in
      let no_variable : has_name v.variables name ≡ false =
      sym (ap (λ (variables : List (List ℕ)). has_name variables name) variables_here)
      ∙ lines_out (map names_of_line (read_behind quiet cut rest)) (with_line d l) name behind
      ∙ ap (λ (variables : List (List ℕ)). has_name variables name) (definition_out l.defines used) ∙ unused in
      let no_definition : has_name d.defined name ≡ false = sym (ap (λ (defined : List (List ℕ)). has_name defined name) (names_stay l.used d)) ∙ undefined in
      ap (λ (table : List (List ℕ)). has_name table name) served.table ∙ list_any-append (bytes_eq name) v.variables d.defined
      ∙ ap (λ (test : Bool). test || has_name d.defined name) no_variable ∙ no_definition

  fresh_definition : (own : List ℕ × List Part) → definition_in (Some asked) ≡ Some own → has_name names own.0 ≡ false
  fresh_definition own is = by asked refl is
    where
      by : (other : SymbolLine) → asked ≡ other → definition_in (Some other) ≡ Some own → has_name names own.0 ≡ false
      by (asks.Values verb list) same is = absurd (cc)
      by (asks.Names (Variables used)) same is = absurd (cc)
      by (asks.Names (Let name parts)) same is =
          let e : (name, parts) ≡ own = cc in
          fresh_here own.0 (ap (λ (line : SymbolLine). (names_of_asked line).defines) same ∙ ap (λ (pair : List ℕ × List Part). Some pair.0) e)
      by (asks.Names (Vertices number)) same is = absurd (cc)
      by (asks.Plain command) same is = absurd (cc)

  pub is_known : IsKnown v names truths asked
  is_known = record {
    values = served_names quiet v d names truths cut line rest (Some asked) served whole reads;
    fresh = fresh_definition;
  }

-- ---- the table of a later session

-- with the same names and truth values in each column it is served with the same lines
pub served_alike : (quiet : Bool) (v : Valuations) (d : NamesData) (names others : List (List ℕ)) (truths later : ℕ → List Bool) (cut : Option ℕ)
    (lines : List (ℕ × List ℕ)) → others ≡ names → ((column : ℕ) → column < v.columns → later column ≡ truths column) →
    IsServed quiet v d names truths cut lines → IsServed quiet v d others later cut lines
served_alike quiet v d names others truths later cut lines same alike served = record {
  table = same ∙ served.table;
  counted = λ column inside. ap length (alike column inside) ∙ served.counted column inside ∙ sym (ap length same);
  right = served.right;
  variables = served.variables;
  values = λ column inside.
      ap (λ (names : List (List ℕ)). values_with names (later column) (definitions_of (read_behind quiet cut lines))) same
      ∙ ap (λ (values : List Bool). values_with names values (definitions_of (read_behind quiet cut lines))) (alike column inside)
      ∙ served.values column inside;
}
