-- A name that is defined: it isn't in the table, and stands behind the others for the function of its formula.
use Rattle.std.proofs.Common.{◌≡◌, ℕ, ◌<◌, ◌||◌, Bool, true, false, List, [], ◌∷◌, ◌++◌, length, map, All, bytes_eq, Option, None, Some, refl, sym, ap, ap₂, ◌∙◌, arith, if◌then◌else◌}
use Rattle.std.specs.Prelude.{is_some}
use Rattle.std.specs.Option.{option_map_or}
use Rattle.std.proofs.lemmas.List.{map-append}
use Rattle.ternary.specs.declared.tern.Tern.TheVariants.{Zero, One, Unk}
use Rattle.decision_graph.specs.declared.vertex.Function.{Function}
use Rattle.formulas.specs.declared.formula.Part.{Part}
use Rattle.formula_functions.specs.Tables.{TableData, value_named}
use Rattle.formula_functions.specs.Truths.{truth_of}
use Rattle.symbol_lines.specs.Names.{has_name}
use Rattle.truth_columns.specs.Columns.{values_in}
use Rattle.truth_makers.specs.declared.symbols.Symbols.{Symbols}
use Rattle.truth_makers.specs.Makers.{columns_in, function_holds, IsFunctionOf}
use Rattle.truth_makers.specs.Expecting.{state_of_truth}
use Rattle.truth_parts.specs.Columns.{state_with}
use Rattle.symbol_equiv.specs.Sharing.{KeepsFunctions}
use Rattle.symbol_session.proofs.DataLemmas.{values_kept}

-- ---- whether a name is there

-- the truth value that each function is given
abbrev all_true : List Function → List Bool
all_true functions = map (λ (own : Function). true) functions

-- a name that has a function is there
pub there_by_value : (names : List (List ℕ)) (functions : List Function) (name : List ℕ) → value_named names (all_true functions) name ≡ true →
    has_name names name ≡ true
there_by_value [] functions name is = absurd (let e : false ≡ true = is in cc)
there_by_value (own ∷ names) [] name is = absurd (let e : false ≡ true = is in cc)
there_by_value (own ∷ names) (function ∷ functions) name is = by (bytes_eq name own) (there_by_value names functions name) refl is
  where
    by : (test : Bool) → (value_named names (all_true functions) name ≡ true → has_name names name ≡ true) → bytes_eq name own ≡ test →
        (if test then true else value_named names (all_true functions) name) ≡ true → has_name (own ∷ names) name ≡ true
    by true later same is = ap (λ (test : Bool). test || has_name names name) same
    by false later same is = ap (λ (test : Bool). test || has_name names name) same ∙ later is

-- and one that has none isn't, if there is a function for each
pub fresh_by_value : (names : List (List ℕ)) (functions : List Function) (name : List ℕ) → length functions ≡ length names →
    value_named names (all_true functions) name ≡ false → has_name names name ≡ false
fresh_by_value [] functions name counted is = refl
fresh_by_value (own ∷ names) [] name counted is = absurd (omega (arith, counted))
fresh_by_value (own ∷ names) (function ∷ functions) name counted is =
    by (bytes_eq name own) (fresh_by_value names functions name (omega (arith, counted))) refl is
  where
    by : (test : Bool) → (value_named names (all_true functions) name ≡ false → has_name names name ≡ false) → bytes_eq name own ≡ test →
        (if test then true else value_named names (all_true functions) name) ≡ false → has_name (own ∷ names) name ≡ false
    by true later same is = absurd (let e : true ≡ false = is in cc)
    by false later same is = ap (λ (test : Bool). test || has_name names name) same ∙ later is

-- by what the table answers
pub there_by_answer : (names : List (List ℕ)) (functions : List Function) (name : List ℕ) (found : Option Function) → is_some found ≡ true →
    ((truth : Function → Bool) → value_named names (map truth functions) name ≡ option_map_or truth found false) → has_name names name ≡ true
there_by_answer names functions name None is value = absurd (let e : false ≡ true = is in cc)
there_by_answer names functions name (Some function) is value = there_by_value names functions name (value (λ own. true))

pub fresh_by_answer : (names : List (List ℕ)) (functions : List Function) (name : List ℕ) (found : Option Function) → is_some found ≡ false →
    length functions ≡ length names → ((truth : Function → Bool) → value_named names (map truth functions) name ≡ option_map_or truth found false) →
    has_name names name ≡ false
fresh_by_answer names functions name None is counted value = fresh_by_value names functions name counted (value (λ own. true))
fresh_by_answer names functions name (Some function) is counted value = absurd (let e : true ≡ false = is in cc)

pub named_by_answer : (names : List (List ℕ)) (functions : List Function) (name : List ℕ) (found : Option Function) → length functions ≡ length names →
    ((truth : Function → Bool) → value_named names (map truth functions) name ≡ option_map_or truth found false) → is_some found ≡ has_name names name
named_by_answer names functions name None counted value = sym (fresh_by_answer names functions name None refl counted value)
named_by_answer names functions name (Some function) counted value = sym (there_by_answer names functions name (Some function) refl value)

-- ---- the function of a formula

-- where the letter of a truth value may be 1, it is true
pub high_is : (high low truth : Bool) → state_with high low ≡ state_of_truth truth → high ≡ truth
high_is true low true is = refl
high_is false low false is = refl
high_is true true false is = absurd (let e : Unk ≡ Zero = is in cc)
high_is true false false is = absurd (let e : One ≡ Zero = is in cc)
high_is false true true is = absurd (let e : Zero ≡ One = is in cc)
high_is false false true is = absurd (let e : Unk ≡ One = is in cc)

-- the truth values of the table with it
pub named_next : (old new : Symbols) → KeepsFunctions old new → (table : TableData) → All (IsFunctionOf old) table.functions → (parts : List Part) (function : Function)
    (column : ℕ) → column < columns_in old →
    function_holds new function column ≡ truth_of (value_named table.names (values_in (function_holds old) column table.functions)) parts →
    values_in (function_holds new) column (table.functions ++ function ∷ [])
    ≡ values_in (function_holds old) column table.functions ++ truth_of (value_named table.names (values_in (function_holds old) column table.functions)) parts ∷ []
named_next old new keeps table all parts function column inside holds =
    map-append (λ (own : Function). function_holds new own column) table.functions (function ∷ [])
    ∙ ap₂ (λ (front : List Bool) (last : Bool). front ++ last ∷ []) (values_kept old new keeps table.functions all column inside) holds
