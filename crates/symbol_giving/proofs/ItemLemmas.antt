-- The letters of the items of a list, one after the other, while more is made for them.
use Rattle.std.proofs.Common.{◌≡◌, ℕ, ◌+◌, ◌<◌, ◌≤◌, Bool, List, [], ◌∷◌, ◌++◌, length, map, get_or, drop, All, sym, ap, subst, ◌∙◌}
use Rattle.std.proofs.lemmas.List.{drop_all, drop_more, map-append}
use Rattle.vector_values.specs.Values.{Letter}
use Rattle.decision_graph.specs.declared.graph.GraphFault.{GraphFault}
use Rattle.decision_graph.specs.declared.graph.GraphFault.TheVariants as graph
use Rattle.formula_functions.specs.Tables.{TableData}
use Rattle.truth_makers.specs.Makers.{IsSpent}
use Rattle.symbol_lines.specs.declared.items.Item.{Item}
use Rattle.symbol_stage.specs.Stages.{StageData, columns_on}
use Rattle.session_meaning.specs.Sessions.{HeldSession}
use Rattle.session_meaning.proofs.ItemLemmas.{given-end, given-next}
use Rattle.symbol_meaning.specs.Readings.{letter_under}
use Rattle.symbol_giving.specs.declared.letters.SymbolLetter.{SymbolLetter}
use Rattle.symbol_giving.specs.Letters.{IsLetterOf, IsTableOf, OnlyMakes, letter_in, named_in}
use Rattle.symbol_giving.proofs.LetterLemmas.{letters_stay, named_more, only_columns, only_keeps}

-- that memory ran out may be told of any stage
pub spent_by_memory : (stage : StageData) (why : GraphFault) → why ≡ graph.NoMemory → IsSpent stage.machine.maker why
spent_by_memory stage why is = λ full. absurd (let e : graph.Full ≡ graph.NoMemory = sym full ∙ is in cc)

-- an item more
pub items_on : (first now later : HeldSession StageData) (table : TableData) (items : List Item) (place : ℕ) (own : Item) → OnlyMakes first now → OnlyMakes now later →
    IsTableOf first.stage table → place < length items → own ≡ get_or items place own → (letters : List SymbolLetter) (letter : SymbolLetter) (more : List SymbolLetter) →
    more ≡ letters ++ letter ∷ [] → All (IsLetterOf now.stage) letters →
    ((column : ℕ) → column < columns_on now.stage → letter_in later.stage column letter ≡ letter_under (named_in now.stage table column) own) →
    ((column : ℕ) → column < columns_on first.stage →
    map (letter_in now.stage column) letters ++ map (letter_under (named_in first.stage table column)) (drop place items)
    ≡ map (letter_under (named_in first.stage table column)) items) →
    (column : ℕ) → column < columns_on first.stage →
    map (letter_in later.stage column) more ++ map (letter_under (named_in first.stage table column)) (drop (place + 1) items)
    ≡ map (letter_under (named_in first.stage table column)) items
items_on first now later table items place own before behind is inside here letters letter more grown are made so_far column within =
    let there : column < columns_on now.stage = subst (λ (n : ℕ). column < n) (sym (only_columns first now before)) within in
    let values = named_in first.stage table column in
    let under = letter_under values in
    let one : letter_in later.stage column letter ≡ under own =
    made column there ∙ ap (λ (others : List ℕ → Bool). letter_under others own) (named_more first.stage now.stage table before.makes is column within) in
    given-next (map (letter_in now.stage column) letters) (under own ∷ []) (map (letter_in later.stage column) more) (map under (drop place items))
    (map under (drop (place + 1) items)) (map under items) (so_far column within)
    (ap (map under) (drop_more items place own inside) ∙ ap (λ (item : Item). under item ∷ map under (drop (place + 1) items)) (sym here))
    (ap (map (letter_in later.stage column)) grown ∙ map-append (letter_in later.stage column) letters (letter ∷ [])
    ∙ ap (λ (front : List Letter). front ++ letter_in later.stage column letter ∷ [])
    (letters_stay now.stage later.stage (only_columns now later behind) (only_keeps now later behind) letters column are there)
    ∙ ap (λ (last : Letter). map (letter_in now.stage column) letters ++ last ∷ []) one)

-- and all of them
pub items_end : (values : List ℕ → Bool) (items : List Item) (place : ℕ) (letters : List Letter) → length items ≤ place →
    letters ++ map (letter_under values) (drop place items) ≡ map (letter_under values) items → letters ≡ map (letter_under values) items
items_end values items place letters past so_far =
    given-end letters (map (letter_under values) (drop place items)) (map (letter_under values) items) so_far
    (ap (map (letter_under values)) (drop_all place items past))
