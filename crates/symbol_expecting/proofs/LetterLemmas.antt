-- What nodes have and what is wanted of them in the column of a valuation, by the values of functions under it.
use Rattle.std.proofs.Common.{◌≡◌, ◌≢◌, ℕ, ◌+◌, ◌<◌, ◌^◌, Bool, false, List, [], ◌∷◌, ◌++◌, length, take, get_or, map, refl, sym, ap, ap₂, ◌∙◌, arith}
use Rattle.std.proofs.lemmas.List.{map-append, take_more}
use Rattle.ternary.specs.Tern.{may_one, may_zero}
use Rattle.switch_paths.specs.Switching.{state_at}
use Rattle.printed_lines.specs.Lines.{wanted_letter}
use Rattle.decision_graph.specs.declared.vertex.Function.{Function}
use Rattle.decision_graph.specs.Meaning.{assigned, holds}
use Rattle.decision_graph.specs.Vertices.{IsReduced}
use Rattle.decision_graph.proofs.AgreeLemmas.{holds-known}
use Rattle.truth_makers.specs.declared.symbols.Symbols.{Symbols}
use Rattle.truth_makers.specs.Makers.{function_holds, IsFunctionOf}
use Rattle.truth_makers.specs.Valuations.{column_of, valuation_of}
use Rattle.truth_makers.proofs.SymbolLemmas.{column_of-lt, valuation_of-column}
use Rattle.truth_parts.specs.Columns.{state_with}
use Rattle.truth_parts.proofs.ColumnLemmas.{state_with-rails}
use Rattle.symbol_lines.specs.declared.items.Item.{Item}
use Rattle.symbol_lines.specs.declared.items.Item.TheVariants as item
use Rattle.symbol_meaning.specs.Merging.{is_formula_alone}
use Rattle.symbol_stage.specs.Stages.{StageData, columns_on, states_in}
use Rattle.symbol_giving.specs.Letters.{letter_in}
use Rattle.symbol_giving.specs.declared.letters.SymbolLetter.{SymbolLetter}
use Rattle.symbol_expecting.specs.Missing.{column_with}
use Rattle.symbol_expecting.specs.Telling.{is_formula_item, state_under, wanted_under}

-- a function holds in the column of a valuation as under it
pub value_under : (symbols : Symbols) (f : Function) (vars : List Bool) → IsReduced symbols.graph.variables symbols.graph.vertices → IsFunctionOf symbols f →
    holds symbols.graph.vertices (assigned vars) f.place ≡ function_holds symbols f (column_with symbols vars)
value_under symbols f vars reduced inside =
    let variables = symbols.graph.variables in
    holds-known variables symbols.graph.vertices (assigned vars) (valuation_of variables (column_of (assigned vars) variables)) f.place reduced inside
    (λ v known. sym (valuation_of-column variables (assigned vars) v known))

-- the column is one of those that there are
pub column_inside : (symbols : Symbols) (vars : List Bool) → column_with symbols vars < 2 ^ symbols.graph.variables
column_inside symbols vars = column_of-lt symbols.graph.variables (assigned vars)

-- the state that a node's rails are there is the node's
pub state_read : (stage : StageData) (node : ℕ) (hi lo : Function) (vars : List Bool) →
    ((column : ℕ) → column < columns_on stage → function_holds stage.machine.maker hi column ≡ may_one (state_at (states_in stage column) node)) →
    ((column : ℕ) → column < columns_on stage → function_holds stage.machine.maker lo column ≡ may_zero (state_at (states_in stage column) node)) →
    state_under stage.machine.maker hi lo vars ≡ state_at (states_in stage (column_with stage.machine.maker vars)) node
state_read stage node hi lo vars highs lows =
    let column = column_with stage.machine.maker vars in
    let inside = column_inside stage.machine.maker vars in
    ap₂ state_with (highs column inside) (lows column inside) ∙ state_with-rails (state_at (states_in stage column) node)

-- one element more of what is told of the first ones
pub map_more : {A B : Type 0} (f : A → B) (xs : List A) (k : ℕ) (d x : A) → k < length xs → get_or xs k d ≡ x →
    map f (take (k + 1) xs) ≡ map f (take k xs) ++ f x ∷ []
map_more {A} {B} f xs k d x inside is =
    ap (map f) (take_more xs k d inside) ∙ map-append f (take k xs) (get_or xs k d ∷ []) ∙ ap (λ (own : A). map f (take k xs) ++ f own ∷ []) is

-- the bytes of the letters that are wanted, node by node
pub wanted_bytes : (stage : StageData) (pairs : List (ℕ × SymbolLetter)) (vars : List Bool) →
    map (λ (pair : ℕ × SymbolLetter). wanted_letter (letter_in stage (column_with stage.machine.maker vars) pair.1)) pairs
    ≡ map wanted_letter (wanted_under stage pairs vars)
wanted_bytes stage [] vars = refl
wanted_bytes stage (pair ∷ pairs) vars =
    ap (λ (rest : List ℕ). wanted_letter (letter_in stage (column_with stage.machine.maker vars) pair.1) ∷ rest) (wanted_bytes stage pairs vars)

-- ---- a value that is one formula

-- of one item it is told by that, and other lists are none
pub formula_alone : (items : List Item) (d : Item) → length items ≡ 1 → is_formula_alone items ≡ is_formula_item (get_or items 0 d)
formula_alone [] d one = absurd (omega (arith, one))
formula_alone (item.Letter letter ∷ []) d one = refl
formula_alone (item.Formula parts ∷ []) d one = refl
formula_alone (item.Letter letter ∷ other ∷ items) d one = absurd (omega (arith, one))
formula_alone (item.Formula parts ∷ other ∷ items) d one = absurd (omega (arith, one))

pub formula_beside : (items : List Item) → length items ≢ 1 → is_formula_alone items ≡ false
formula_beside [] many = refl
formula_beside (item.Letter letter ∷ items) many = refl
formula_beside (item.Formula parts ∷ []) many = absurd (many refl)
formula_beside (item.Formula parts ∷ other ∷ items) many = refl
