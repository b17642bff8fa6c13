-- Vectors by name: what a table of them holds, and how many entries they have together.
use Rattle.std.proofs.Common.{◌≡◌, ℕ, ◌+◌, ◌-◌, ◌<◌, ◌≤◌, get_or, drop, Bool, true, false, bytes_eq, List, [], ◌∷◌, ◌++◌, length, Option, Some, None, option_map, Result, Ok, Err, Vec, refl, sym, ap, ◌∙◌, arith, if◌then◌else◌}
use Rattle.std.specs.List.{flat_map}
use Rattle.std.specs.Option.{option_map_or}
use Rattle.std.proofs.lemmas.Bool.{le-leb, lt-leb}
use Rattle.std.proofs.lemmas.List.{drop_more}
use Rattle.std.specs.Map.{lookup}
use Rattle.std.specs.declared.alloc.Global.{Global}
use Rattle.indexmap.specs.IndexMap.{insert_entry}
use Rattle.node_words.specs.declared.TheConstants.{MOST_IN_ALL}
use Rattle.node_words.specs.declared.fault.VectorFault.{VectorFault}
use Rattle.node_words.specs.declared.fault.VectorFault.TheVariants.{TooMany}
use Rattle.node_words.proofs.WordLemmas.{with_parts-on, with_parts-fault}
use Rattle.node_words.specs.Words.{Part, fault_in, list_of, nodes_in, unless_fault, with_parts}
use Rattle.node_words.specs.Vectors.{entries_in, length_at, lists_of, total_fault, with_list}

-- a look-up in the table finds the list under the name
pub list_of-lists_of : (table : List (Vec ℕ Global × Vec ℕ Global)) (name : List ℕ) →
    option_map (λ list. list.items) (lookup (λ key. bytes_eq name key.items) table) ≡ list_of (lists_of table) name
list_of-lists_of [] name = refl
list_of-lists_of (entry ∷ table) name = by (bytes_eq name entry.0.items) (list_of-lists_of table name)
  where
    by : (same : Bool) →
        option_map (λ list. list.items) (lookup (λ key. bytes_eq name key.items) table) ≡ list_of (lists_of table) name →
        option_map (λ list. list.items) (if same then Some entry.1 else lookup (λ key. bytes_eq name key.items) table)
        ≡ (if same then Some entry.1.items else list_of (lists_of table) name)
    by true rest = refl
    by false rest = rest

-- a list that is put into the table is put under its name
pub lists_of-insert : (table : List (Vec ℕ Global × Vec ℕ Global)) (name list : Vec ℕ Global) →
    lists_of (insert_entry (λ one two. bytes_eq one.items two.items) table name list) ≡ with_list (lists_of table) name.items list.items
lists_of-insert [] name list = refl
lists_of-insert (entry ∷ table) name list = by (bytes_eq name.items entry.0.items) (lists_of-insert table name list)
  where
    by : (same : Bool) →
        lists_of (insert_entry (λ one two. bytes_eq one.items two.items) table name list) ≡ with_list (lists_of table) name.items list.items →
        lists_of (if same then (entry.0, list) ∷ table else entry ∷ insert_entry (λ one two. bytes_eq one.items two.items) table name list)
        ≡ (if same then (entry.0.items, list.items) ∷ lists_of table else (entry.0.items, entry.1.items) ∷ with_list (lists_of table) name.items list.items)
    by true rest = refl
    by false rest = ap (λ others. (entry.0.items, entry.1.items) ∷ others) rest

-- how many entries there are with a list in place of the one that the name had
pub entries_in-with_list : (vectors : List (List ℕ × List ℕ)) (name list : List ℕ) →
    entries_in (with_list vectors name list) + length_at vectors name ≡ entries_in vectors + length list
entries_in-with_list [] name list = omega arith
entries_in-with_list (entry ∷ vectors) name list = by (bytes_eq name entry.0) (entries_in-with_list vectors name list)
  where
    by : (same : Bool) →
        entries_in (with_list vectors name list) + length_at vectors name ≡ entries_in vectors + length list →
        entries_in (if same then (entry.0, list) ∷ vectors else entry ∷ with_list vectors name list)
        + option_map_or length (if same then Some entry.1 else list_of vectors name) 0
        ≡ (length entry.1 + entries_in vectors) + length list
    by true rest = omega arith
    by false rest = omega arith

-- a name has no more entries than all
pub length_at-le : (vectors : List (List ℕ × List ℕ)) (name : List ℕ) → length_at vectors name ≤ entries_in vectors
length_at-le [] name = omega arith
length_at-le (entry ∷ vectors) name = by (bytes_eq name entry.0) (length_at-le vectors name)
  where
    by : (same : Bool) → length_at vectors name ≤ entries_in vectors →
        option_map_or length (if same then Some entry.1 else list_of vectors name) 0 ≤ length entry.1 + entries_in vectors
    by true rest = omega arith
    by false rest = omega arith

unless_fault-ok : (fault : Option VectorFault) (one other : List ℕ) → unless_fault fault one ≡ Ok other → (fault ≡ None) × (one ≡ other)
unless_fault-ok None one other made = (refl, cc)
unless_fault-ok (Some fault) one other made = absurd (cc)

unless_fault-err : (found : Option VectorFault) (list : List ℕ) (fault : VectorFault) → unless_fault found list ≡ Err fault → found ≡ Some fault
unless_fault-err None list fault made = absurd (cc)
unless_fault-err (Some found) list fault made = cc

-- parts that make a list have no fault, and the list has their nodes
pub nodes-made : (all : List Part) (list : List ℕ) → with_parts [] all ≡ Ok list → (fault_in 0 all ≡ None) × (nodes_in all ≡ list)
nodes-made all list made = unless_fault-ok (fault_in 0 all) (nodes_in all) list made

-- parts that make none have the fault
pub fault-made : (all : List Part) (fault : VectorFault) → with_parts [] all ≡ Err fault → fault_in 0 all ≡ Some fault
fault-made all fault made = unless_fault-err (fault_in 0 all) (nodes_in all) fault made

-- the count of all entries, once a list is put in place of the one that its name had
pub counted : (count was long : ℕ) (held vectors made : List (List ℕ × List ℕ)) (word name list : List ℕ) → count ≡ entries_in held →
    held ≡ vectors → was ≡ length_at vectors name → long ≡ length list → made ≡ with_list held word list → word ≡ name →
    count - was + long ≡ entries_in made
counted count was long held vectors made word name list of_all seen of_name of_list put same =
    let all : entries_in held ≡ entries_in vectors = ap entries_in seen in
    let new : entries_in made ≡ entries_in (with_list vectors name list) =
    ap entries_in (put ∙ ap (λ (h : List (List ℕ × List ℕ)). with_list h word list) seen ∙ ap (λ w. with_list vectors w list) same) in
    omega (arith, entries_in-with_list vectors name list, length_at-le vectors name)

-- the entries that a name had are among all
pub was-le : (count was : ℕ) (held vectors : List (List ℕ × List ℕ)) (name : List ℕ) → count ≡ entries_in held → held ≡ vectors →
    was ≡ length_at vectors name → was ≤ count
was-le count was held vectors name of_all seen of_name =
    let all : entries_in held ≡ entries_in vectors = ap entries_in seen in
    omega (arith, length_at-le vectors name)

-- too many entries are refused
pub total_fault-past : (vectors : List (List ℕ × List ℕ)) → MOST_IN_ALL < entries_in vectors → total_fault vectors ≡ Some TooMany
total_fault-past vectors past = ap (λ test. if test then None else Some TooMany) (lt-leb (entries_in vectors) MOST_IN_ALL past)

-- and others aren't
pub total_fault-none : (vectors : List (List ℕ × List ℕ)) → entries_in vectors ≤ MOST_IN_ALL → total_fault vectors ≡ None
total_fault-none vectors few = ap (λ test. if test then None else Some TooMany) (le-leb (entries_in vectors) MOST_IN_ALL few)

-- a list takes the words that are left: the next one is taken
pub words-take : (all : Result (List ℕ) VectorFault) (within : List ℕ → List Part) (words : List (List ℕ)) (at : ℕ) (list more item word : List ℕ) →
    all ≡ with_parts list (flat_map within (drop at words)) → at < length words → item ≡ get_or words at item → word ≡ item →
    with_parts list (within word) ≡ Ok more → all ≡ with_parts more (flat_map within (drop (at + 1) words))
words-take all within words at list more item word so_far inside is same made =
    so_far
    ∙ ap (λ rest. with_parts list (flat_map within rest)) (drop_more words at item inside)
    ∙ ap (λ next. with_parts list (within next ++ flat_map within (drop (at + 1) words))) (sym (same ∙ is))
    ∙ with_parts-on list more (within word) (flat_map within (drop (at + 1) words)) made

-- or has a fault
pub words-fault : (all : Result (List ℕ) VectorFault) (within : List ℕ → List Part) (words : List (List ℕ)) (at : ℕ) (list item word : List ℕ) (fault : VectorFault) →
    all ≡ with_parts list (flat_map within (drop at words)) → at < length words → item ≡ get_or words at item → word ≡ item →
    with_parts list (within word) ≡ Err fault → all ≡ Err fault
words-fault all within words at list item word fault so_far inside is same made =
    so_far
    ∙ ap (λ rest. with_parts list (flat_map within rest)) (drop_more words at item inside)
    ∙ ap (λ next. with_parts list (within next ++ flat_map within (drop (at + 1) words))) (sym (same ∙ is))
    ∙ with_parts-fault list (within word) (flat_map within (drop (at + 1) words)) fault made
