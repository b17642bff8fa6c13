-- A formula of a line has the same truth value by the names that are known there as by all definitions of its script: a session keeps a table of
-- names, puts each definition behind the others where its line is obeyed, and asks it for the names of each line.
use Rattle.std.proofs.Common.{◌≡◌, ℕ, Bool, true, false, not, ◌||◌, List, [], ◌∷◌, ◌++◌, length, All, bytes_eq, Option, None, Some, inl, inr, refl, sym, ap, subst, ◌∙◌, arith, length-append, if◌then◌else◌}
use Rattle.std.proofs.lemmas.Bool.{cases_Bool}
use Rattle.std.proofs.lemmas.List.{map-append}
use Rattle.std.proofs.lemmas.List.Elements.{All-cons, All-head, All-nil, All-tail, All-weaker}
use Rattle.std.proofs.lemmas.List.Folds.{list_any-append}
use Rattle.std.proofs.lemmas.Slice.Eq.{bytes_eq-Decides}
use Rattle.decision_graph.specs.declared.vertex.Vertex.{Vertex}
use Rattle.decision_graph.specs.declared.vertex.Function.{Function}
use Rattle.decision_graph.specs.Meaning.{holds}
use Rattle.formulas.specs.declared.formula.Part.{Part}
use Rattle.formulas.specs.declared.formula.Part.TheVariants.{Name, Not, Join}
use Rattle.formulas.specs.Formulas.{sign_value}
use Rattle.formula_functions.specs.Tables.{value_named, values_under}
use Rattle.formula_functions.specs.Truths.{after_parts, but_last, last_of, truth_of}
use Rattle.symbol_lines.specs.declared.names.NameFault.{NameFault}
use Rattle.symbol_lines.specs.Names.{LineData, NamesData, has_name, names_fault, names_in_parts, unless_fault, with_definition, with_line, with_lines, with_name, with_names}
use Rattle.symbol_lines.proofs.NameLemmas.{has_name_push, with_name_new, with_name_there}
use Rattle.symbol_meaning.specs.Readings.{values_with}

-- ---- truth values of names

-- one name more has one truth value more
pub counted_push : (names : List (List ℕ)) (truths : List Bool) (new : List ℕ) (value : Bool) → length truths ≡ length names →
    length (truths ++ value ∷ []) ≡ length (names ++ new ∷ [])
counted_push names truths new value counted = omega (arith, counted, length-append truths (value ∷ []), length-append names (new ∷ []))

-- a name that is there keeps its truth value
named_front : (names : List (List ℕ)) (truths : List Bool) (new : List ℕ) (value : Bool) (name : List ℕ) → length truths ≡ length names →
    has_name names name ≡ true → value_named (names ++ new ∷ []) (truths ++ value ∷ []) name ≡ value_named names truths name
named_front [] truths new value name counted there = absurd (let e : false ≡ true = there in cc)
named_front (own ∷ names) [] new value name counted there = absurd (omega (arith, counted))
named_front (own ∷ names) (truth ∷ truths) new value name counted there =
    by (bytes_eq name own) (named_front names truths new value name (omega (arith, counted))) refl
  where
    by : (test : Bool) → (has_name names name ≡ true → value_named (names ++ new ∷ []) (truths ++ value ∷ []) name ≡ value_named names truths name) →
        bytes_eq name own ≡ test →
        value_named (own ∷ names ++ new ∷ []) (truth ∷ truths ++ value ∷ []) name ≡ value_named (own ∷ names) (truth ∷ truths) name
    by true later is =
        ap (λ (test : Bool). if test then truth else value_named (names ++ new ∷ []) (truths ++ value ∷ []) name) is
        ∙ sym (ap (λ (test : Bool). if test then truth else value_named names truths name) is)
    by false later is =
        ap (λ (test : Bool). if test then truth else value_named (names ++ new ∷ []) (truths ++ value ∷ []) name) is
        ∙ later (sym (ap (λ (test : Bool). test || has_name names name) is) ∙ there)
        ∙ sym (ap (λ (test : Bool). if test then truth else value_named names truths name) is)

-- so whatever is defined behind it
pub named_kept : (names : List (List ℕ)) (truths : List Bool) (definitions : List (List ℕ × List Part)) (name : List ℕ) → length truths ≡ length names →
    has_name names name ≡ true → values_with names truths definitions name ≡ value_named names truths name
named_kept names truths [] name counted there = refl
named_kept names truths (own ∷ others) name counted there =
    let value : Bool = truth_of (value_named names truths) own.1 in
    named_kept (names ++ own.0 ∷ []) (truths ++ value ∷ []) others name (counted_push names truths own.0 value counted)
    (has_name_push names own.0 name ∙ ap (λ (test : Bool). test || bytes_eq name own.0) there)
    ∙ named_front names truths own.0 value name counted there

-- ---- truth values of formulas

-- parts have one truth value by all that agree on their names
after_alike : (one other : List ℕ → Bool) (parts : List Part) (waiting : List Bool) → All (λ name. one name ≡ other name) (names_in_parts parts) →
    after_parts one parts waiting ≡ after_parts other parts waiting
after_alike one other [] waiting same = refl
after_alike one other (Name name ∷ parts) waiting same =
    ap (λ (value : Bool). after_parts one parts (value ∷ waiting)) (All-head (λ own. one own ≡ other own) name (names_in_parts parts) same)
    ∙ after_alike one other parts (other name ∷ waiting) (All-tail (λ own. one own ≡ other own) name (names_in_parts parts) same)
after_alike one other (Not ∷ parts) waiting same = after_alike one other parts (not (last_of waiting) ∷ but_last waiting) same
after_alike one other (Join sign ∷ parts) waiting same =
    after_alike one other parts (sign_value sign (last_of (but_last waiting)) (last_of waiting) ∷ but_last (but_last waiting)) same

pub truth_alike : (one other : List ℕ → Bool) (parts : List Part) → All (λ name. one name ≡ other name) (names_in_parts parts) →
    truth_of one parts ≡ truth_of other parts
truth_alike one other parts same = ap last_of (after_alike one other parts [] same)

-- so a formula of known names has its truth value by them
pub truth_kept : (names : List (List ℕ)) (truths : List Bool) (definitions : List (List ℕ × List Part)) (parts : List Part) → length truths ≡ length names →
    All (λ name. has_name names name ≡ true) (names_in_parts parts) →
    truth_of (values_with names truths definitions) parts ≡ truth_of (value_named names truths) parts
truth_kept names truths definitions parts counted known =
    truth_alike (values_with names truths definitions) (value_named names truths) parts
    (All-weaker (λ name. has_name names name ≡ true) (λ name. values_with names truths definitions name ≡ value_named names truths name)
    (λ name there. named_kept names truths definitions name counted there) (names_in_parts parts) known)

-- a definition goes behind the names of a table as it does behind those of a script
pub defined_next : (names : List (List ℕ)) (truths : List Bool) (name : List ℕ) (parts : List Part) (others : List (List ℕ × List Part)) →
    values_with names truths ((name, parts) ∷ others)
    ≡ values_with (names ++ name ∷ []) (truths ++ truth_of (value_named names truths) parts ∷ []) others
defined_next names truths name parts others = refl

pub values_push : (vertices : List Vertex) (vars : ℕ → Bool) (functions : List Function) (function : Function) →
    values_under vertices vars (functions ++ function ∷ []) ≡ values_under vertices vars functions ++ holds vertices vars function.place ∷ []
values_push vertices vars functions function = map-append (λ (own : Function). holds vertices vars own.place) functions (function ∷ [])

-- ---- the names of a line

-- a name that appears is defined, or a variable then
name_known : (d : NamesData) (name : List ℕ) → (has_name d.defined name || has_name (with_name d name).variables name) ≡ true
name_known d name = by (has_name d.defined name || has_name d.variables name) refl
  where
    first : (test : Bool) → (test || true) ≡ true
    first true = refl
    first false = refl

    by : (test : Bool) → (has_name d.defined name || has_name d.variables name) ≡ test →
        (has_name d.defined name || has_name (with_name d name).variables name) ≡ true
    by true there =
        ap (λ (own : NamesData). has_name d.defined name || has_name own.variables name) (with_name_there d name there) ∙ there
    by false absent =
        ap (λ (own : NamesData). has_name d.defined name || has_name own.variables name) (with_name_new d name absent)
        ∙ ap (λ (test : Bool). has_name d.defined name || test) (has_name_push d.variables name name
        ∙ ap (λ (test : Bool). has_name d.variables name || test) ((bytes_eq-Decides name name).1 refl) ∙ first (has_name d.variables name))
        ∙ first (has_name d.defined name)

-- what is defined stays so where names appear
pub defined_stay : (d : NamesData) (name : List ℕ) → (with_name d name).defined ≡ d.defined
defined_stay d name =
    elim (cases_Bool (has_name d.defined name || has_name d.variables name)) [
      | inl there ↦ ap (λ (own : NamesData). own.defined) (with_name_there d name there)
      | inr absent ↦ ap (λ (own : NamesData). own.defined) (with_name_new d name absent)
    ]

-- and a variable stays one
variable_stays : (d : NamesData) (own name : List ℕ) → has_name d.variables name ≡ true → has_name (with_name d own).variables name ≡ true
variable_stays d own name there =
    elim (cases_Bool (has_name d.defined own || has_name d.variables own)) [
      | inl before ↦ ap (λ (names : NamesData). has_name names.variables name) (with_name_there d own before) ∙ there
      | inr absent ↦ ap (λ (names : NamesData). has_name names.variables name) (with_name_new d own absent)
          ∙ has_name_push d.variables own name ∙ ap (λ (test : Bool). test || bytes_eq name own) there
    ]

variables_stay : (names : List (List ℕ)) (d : NamesData) (name : List ℕ) → has_name d.variables name ≡ true →
    has_name (with_names names d).variables name ≡ true
variables_stay [] d name there = there
variables_stay (own ∷ names) d name there = variables_stay names (with_name d own) name (variable_stays d own name there)

definition_adds : (d : NamesData) (defines : Option (List ℕ)) → (with_definition d defines).variables ≡ d.variables
definition_adds d None = refl
definition_adds d (Some name) = refl

pub lines_stay : (lines : List LineData) (d : NamesData) (name : List ℕ) → has_name d.variables name ≡ true → has_name (with_lines lines d).variables name ≡ true
lines_stay [] d name there = there
lines_stay (line ∷ lines) d name there =
    by (names_fault d line)
    (lines_stay lines (with_line d line) name
    (ap (λ (variables : List (List ℕ)). has_name variables name) (definition_adds (with_names line.used d) line.defines) ∙ variables_stay line.used d name there))
  where
    by : (fault : Option NameFault) → has_name (with_lines lines (with_line d line)).variables name ≡ true →
        has_name (unless_fault fault (with_lines lines (with_line d line)) d).variables name ≡ true
    by None later = later
    by (Some fault) later = there

-- so each name that is used is defined, or a variable behind the line
known_on : (defined one other : Bool) → (defined || one) ≡ true → (one ≡ true → other ≡ true) → (defined || other) ≡ true
known_on true one other is stays = refl
known_on false one other is stays = stays is

used_there : (used : List (List ℕ)) (d : NamesData) → All (λ name. (has_name d.defined name || has_name (with_names used d).variables name) ≡ true) used
used_there [] d = All-nil (λ name. (has_name d.defined name || has_name (with_names [] d).variables name) ≡ true)
used_there (own ∷ others) d =
    All-cons (λ name. (has_name d.defined name || has_name (with_names (own ∷ others) d).variables name) ≡ true) own others
    (known_on (has_name d.defined own) (has_name (with_name d own).variables own) (has_name (with_names others (with_name d own)).variables own) (name_known d own)
    (variables_stay others (with_name d own) own))
    (subst (λ (defined : List (List ℕ)).
    All (λ name. (has_name defined name || has_name (with_names others (with_name d own)).variables name) ≡ true) others) (defined_stay d own)
    (used_there others (with_name d own)))

-- and among the variables of the whole script and what was defined before the line
pub used_known : (d : NamesData) (line : LineData) (later : List LineData) → names_fault d line ≡ None →
    All (λ name. has_name ((with_lines (line ∷ later) d).variables ++ d.defined) name ≡ true) line.used
used_known d line later right =
    All-weaker (λ name. (has_name d.defined name || has_name (with_names line.used d).variables name) ≡ true)
    (λ name. has_name ((with_lines (line ∷ later) d).variables ++ d.defined) name ≡ true)
    (λ name known. list_any-append (bytes_eq name) (with_lines (line ∷ later) d).variables d.defined
    ∙ swapped (has_name d.defined name) (has_name (with_lines (line ∷ later) d).variables name)
    (known_on (has_name d.defined name) (has_name (with_names line.used d).variables name) (has_name (with_lines (line ∷ later) d).variables name) known
    (λ there. ap (λ (fault : Option NameFault). has_name (unless_fault fault (with_lines later (with_line d line)) d).variables name) right
    ∙ lines_stay later (with_line d line) name
    (ap (λ (variables : List (List ℕ)). has_name variables name) (definition_adds (with_names line.used d) line.defines) ∙ there)))) line.used
    (used_there line.used d)
  where
    swapped : (one other : Bool) → (one || other) ≡ true → (other || one) ≡ true
    swapped true true is = refl
    swapped true false is = refl
    swapped false true is = refl
    swapped false false is = is
