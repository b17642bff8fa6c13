-- What names stand for in a table, and the truth values of functions in a graph that extends another.
use Rattle.std.proofs.Common.{◌≡◌, ℕ, zero, suc, ◌+◌, ◌<◌, Bool, true, false, List, [], ◌∷◌, ◌++◌, length, get_or, bytes_eq, Some, None, Vec, refl, sym, ap, ap₂, subst, ◌∙◌, arith, if◌then◌else◌}
use Rattle.std.specs.Prelude.{position}
use Rattle.std.specs.declared.alloc.Global.{Global}
use Rattle.std.proofs.lemmas.List.{get_or-map}
use Rattle.std.proofs.lemmas.List.Quantifiers.{position-Some}
use Rattle.indexmap.specs.IndexSet.{insert_key}
use Rattle.decision_graph.specs.declared.vertex.Vertex.{Vertex}
use Rattle.decision_graph.specs.declared.vertex.Function.{Function}
use Rattle.decision_graph.specs.Vertices.{Extends}
use Rattle.decision_graph.specs.Meaning.{holds}
use Rattle.decision_graph.proofs.ValueLemmas.{holds-extends}
use Rattle.symbol_lines.specs.Names.{has_name, keys_of}
use Rattle.symbol_lines.proofs.NameLemmas.{has_name_keys, length_keys, neither}
use Rattle.formula_functions.specs.Tables.{AreInside, value_named, values_under}
use Rattle.formula_functions.specs.Truths.{but_last, last_of}
use Rattle.formula_functions.specs.Waiting.{but_first, first_or}

-- the truth value of a name that stands at a place, and at none before it
value_named-at : (names : List (List ℕ)) (truths : List Bool) (name : List ℕ) (i : ℕ) → i < length names → length truths ≡ length names →
    bytes_eq name (get_or names i []) ≡ true → ((k : ℕ) → k < i → bytes_eq name (get_or names k []) ≡ false) → value_named names truths name ≡ get_or truths i false
value_named-at [] truths name i inside counted here before = absurd (omega (arith, inside))
value_named-at (own ∷ names) [] name i inside counted here before = absurd (omega (arith, counted))
value_named-at (own ∷ names) (truth ∷ truths) name zero inside counted here before =
    ap (λ test. if test then truth else value_named names truths name) here
value_named-at (own ∷ names) (truth ∷ truths) name (suc i) inside counted here before =
    ap (λ test. if test then truth else value_named names truths name) (before 0 (omega arith))
    ∙ value_named-at names truths name i (omega (arith, inside)) (omega (arith, counted)) here (λ k below. before (suc k) (omega (arith, below)))

-- a name whose place in a table was found has the truth value at that place
pub value_named-found : (keys : List (Vec ℕ Global)) (truths : List Bool) (name : List ℕ) (i : ℕ) → position (λ (key : Vec ℕ Global). bytes_eq name key.items) keys ≡ Some i →
    length truths ≡ length keys → value_named (keys_of keys) truths name ≡ get_or truths i false
value_named-found [] truths name i is counted = absurd (let e : None ≡ Some i = is in cc)
value_named-found (key ∷ keys) truths name i is counted =
    let (inside, here, before) = position-Some (λ (own : Vec ℕ Global). bytes_eq name own.items) (key ∷ keys) i key is in
    value_named-at (keys_of (key ∷ keys)) truths name i (omega (arith, inside, length_keys (key ∷ keys))) (omega (arith, counted, length_keys (key ∷ keys)))
    (ap (bytes_eq name) (get_or-map (λ (own : Vec ℕ Global). own.items) (key ∷ keys) i key [] inside) ∙ here)
    (λ k below. ap (bytes_eq name) (get_or-map (λ (own : Vec ℕ Global). own.items) (key ∷ keys) k key [] (omega (arith, below, inside))) ∙ before k below)

-- a name that isn't among them is false
pub value_named-absent : (names : List (List ℕ)) (truths : List Bool) (name : List ℕ) → has_name names name ≡ false → value_named names truths name ≡ false
value_named-absent [] truths name absent = refl
value_named-absent (own ∷ names) [] name absent = refl
value_named-absent (own ∷ names) (truth ∷ truths) name absent =
    let (other, others) = neither (bytes_eq name own) (has_name names name) absent in
    ap (λ test. if test then truth else value_named names truths name) other ∙ value_named-absent names truths name others

-- nor one that a look-up doesn't find
pub value_named-unfound : (keys : List (Vec ℕ Global)) (truths : List Bool) (name : List ℕ) → has_name (keys_of keys) name ≡ false →
    value_named (keys_of keys) truths name ≡ false
value_named-unfound keys truths name absent = value_named-absent (keys_of keys) truths name absent

-- a name that isn't in the table is put behind the others
pub keys-inserted : (keys : List (Vec ℕ Global)) (key : Vec ℕ Global) → has_name (keys_of keys) key.items ≡ false →
    insert_key (λ (one two : Vec ℕ Global). bytes_eq one.items two.items) keys key ≡ keys ++ key ∷ []
keys-inserted keys key absent = ap (λ test. if test then keys else keys ++ key ∷ []) (has_name_keys keys key.items ∙ absent)

-- functions have their truth values in a graph that extends theirs
pub values_under-extends : (old new : List Vertex) (vars : ℕ → Bool) (functions : List Function) → Extends old new → AreInside old functions →
    values_under new vars functions ≡ values_under old vars functions
values_under-extends old new vars [] extends inside = refl
values_under-extends old new vars (function ∷ functions) extends inside =
    ap₂ (λ (value : Bool) (values : List Bool). value ∷ values)
    (holds-extends old new vars function.place extends (inside 0 function (omega arith)))
    (values_under-extends old new vars functions extends (λ k d less. inside (suc k) d (omega (arith, less))))

-- and are there
pub AreInside-extends : (old new : List Vertex) (functions : List Function) → Extends old new → AreInside old functions → AreInside new functions
AreInside-extends old new functions extends inside = λ k d less. omega (arith, extends.longer, inside k d less)

-- so are they with one more of that graph
pub AreInside-more : (old new : List Vertex) (made : Function) (functions : List Function) → Extends old new → AreInside old functions → made.place < length new →
    AreInside new (made ∷ functions)
AreInside-more old new made functions extends inside own = by
  where
    by : (k : ℕ) (d : Function) → k < suc (length functions) → (get_or (made ∷ functions) k d).place < length new
    by zero d less = own
    by (suc k) d less = omega (arith, extends.longer, inside k d (omega (arith, less)))

-- what waited last, or a function that never holds: its truth value, and that it is there
pub first-value : (vertices : List Vertex) (vars : ℕ → Bool) (never : Function) (waiting : List Function) → holds vertices vars never.place ≡ false →
    holds vertices vars (first_or never waiting).place ≡ last_of (values_under vertices vars waiting)
first-value vertices vars never [] is = is
first-value vertices vars never (function ∷ waiting) is = refl

pub first-inside : (vertices : List Vertex) (never : Function) (waiting : List Function) → never.place < length vertices → AreInside vertices waiting →
    (first_or never waiting).place < length vertices
first-inside vertices never [] own inside = own
first-inside vertices never (function ∷ waiting) own inside = inside 0 function (omega arith)

-- and the others
pub rest-values : (vertices : List Vertex) (vars : ℕ → Bool) (waiting : List Function) →
    values_under vertices vars (but_first waiting) ≡ but_last (values_under vertices vars waiting)
rest-values vertices vars [] = refl
rest-values vertices vars (function ∷ waiting) = refl

pub rest-inside : (vertices : List Vertex) (waiting : List Function) → AreInside vertices waiting → AreInside vertices (but_first waiting)
rest-inside vertices [] inside = inside
rest-inside vertices (function ∷ waiting) inside = λ k d less. inside (suc k) d (omega (arith, less))

-- a function that was made in a graph which extends another waits before functions of the other
pub made_inside : (old new : List Vertex) (made : Function) (rest all : List Function) → all ≡ made ∷ rest → Extends old new → AreInside old rest →
    made.place < length new → AreInside new all
made_inside old new made rest all is extends inside there = subst (AreInside new) (sym is) (AreInside-more old new made rest extends inside there)

-- and its value before their values
pub made_values : (old new : List Vertex) (vars : ℕ → Bool) (made : Function) (rest all : List Function) (value : Bool) (values : List Bool) → all ≡ made ∷ rest →
    Extends old new → AreInside old rest → holds new vars made.place ≡ value → values_under old vars rest ≡ values → values_under new vars all ≡ value ∷ values
made_values old new vars made rest all value values is extends inside own others =
    ap (values_under new vars) is
    ∙ ap₂ (λ (value : Bool) (values : List Bool). value ∷ values) own (values_under-extends old new vars rest extends inside ∙ others)
