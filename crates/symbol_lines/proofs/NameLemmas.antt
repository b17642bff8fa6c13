-- The names of a script: how a table of them is looked up and grows, that variables are only added by what lines use, and which lines are refused.
use Rattle.std.proofs.Common.{◌≡◌, ℕ, ◌+◌, ◌<◌, ◌≤◌, Bool, true, false, ◌||◌, List, [], ◌∷◌, ◌++◌, length, take, slice_get, nat_lt, bytes_eq, Option, Some, None, option_map, Vec, inl, inr, refl, sym, ap, ◌∙◌, subst, arith, length-append, if◌then◌else◌}
use Rattle.std.specs.List.{list_any}
use Rattle.std.specs.declared.alloc.Global.{Global}
use Rattle.std.proofs.lemmas.Bool.{cases_Bool, lt-ltb, ltb-true, ltb-false, or_cases}
use Rattle.std.proofs.lemmas.List.{map-append, take-append-le, take-map, take-take, take_all, take_more, length-map}
use Rattle.std.proofs.lemmas.Option.{get_or_from_slice_get, slice_get-map, slice_get_within}
use Rattle.std.proofs.lemmas.List.Folds.{list_any-append}
use Rattle.std.proofs.lemmas.Slice.Eq.{bytes_eq-Decides}
use Rattle.indexmap.specs.IndexSet.{insert_key}
use Rattle.symbol_lines.specs.declared.TheConstants.{MOST_VARIABLES}
use Rattle.symbol_lines.specs.declared.names.NameFault.TheVariants.{TooManyVariables, NameDefined}
use Rattle.symbol_lines.specs.Names.{AreNames, LineData, NamesData, NamesStayApart, definition_fault, has_name, keys_of, names_fault, with_definition, with_name, with_names}

-- a look-up in the table finds the name
pub has_name_keys : (keys : List (Vec ℕ Global)) (name : List ℕ) → list_any (λ key. bytes_eq name key.items) keys ≡ has_name (keys_of keys) name
has_name_keys [] name = refl
has_name_keys (key ∷ keys) name = ap (λ test. bytes_eq name key.items || test) (has_name_keys keys name)

-- a name that isn't in the table is put behind the others
pub keys_of_inserted : (keys : List (Vec ℕ Global)) (name : Vec ℕ Global) → has_name (keys_of keys) name.items ≡ false →
    keys_of (insert_key (λ one two. bytes_eq one.items two.items) keys name) ≡ keys_of keys ++ name.items ∷ []
keys_of_inserted keys name absent =
    ap (λ test. keys_of (if test then keys else keys ++ name ∷ [])) (has_name_keys keys name.items ∙ absent)
    ∙ map-append (λ (key : Vec ℕ Global). key.items) keys (name ∷ [])

-- the names of a front of the table, and how many there are
pub keys_of_take : (n : ℕ) (keys : List (Vec ℕ Global)) → keys_of (take n keys) ≡ take n (keys_of keys)
keys_of_take n keys = sym (take-map (λ (key : Vec ℕ Global). key.items) n keys)

-- those before a place and the one there are one more
pub keys_of_next : (keys : List (Vec ℕ Global)) (place : ℕ) (key : Vec ℕ Global) → Some key ≡ slice_get keys place →
    take (place + 1) (keys_of keys) ≡ take place (keys_of keys) ++ key.items ∷ []
keys_of_next keys place key seen =
    let stands : slice_get (keys_of keys) place ≡ Some key.items =
    slice_get-map (λ (own : Vec ℕ Global). own.items) keys place ∙ ap (option_map (λ (own : Vec ℕ Global). own.items)) (sym seen) in
    take_more (keys_of keys) place [] (slice_get_within (keys_of keys) place key.items stands)
    ∙ ap (λ (name : List ℕ). take place (keys_of keys) ++ name ∷ []) (get_or_from_slice_get (keys_of keys) place key.items [] stands)

pub length_keys : (keys : List (Vec ℕ Global)) → length (keys_of keys) ≡ length keys
length_keys keys = length-map keys (λ (key : Vec ℕ Global). key.items)

-- names with one more
pub has_name_push : (names : List (List ℕ)) (own name : List ℕ) → has_name (names ++ own ∷ []) name ≡ (has_name names name || bytes_eq name own)
has_name_push names own name = list_any-append (bytes_eq name) names (own ∷ []) ∙ ap (λ test. has_name names name || test) (single (bytes_eq name own))
  where
    single : (test : Bool) → (test || false) ≡ test
    single true = refl
    single false = refl

-- equal bytes are one name
same_name : (one other : List ℕ) → bytes_eq one other ≡ true → one ≡ other
same_name one other passes = (bytes_eq-Decides one other).0 passes

-- no variable is defined
abbrev AreApart : NamesData → Type 0
AreApart d = (name : List ℕ) → has_name d.variables name ≡ true → has_name d.defined name ≡ false

-- also with a new variable that isn't defined
AreApart-variable : (d : NamesData) (name : List ℕ) → AreApart d → has_name d.defined name ≡ false →
    AreApart (record { variables = d.variables ++ name ∷ []; defined = d.defined })
AreApart-variable d name apart absent own there =
    elim (or_cases (has_name d.variables own) (bytes_eq own name) (sym (has_name_push d.variables name own) ∙ there)) [
      | inl old ↦ apart own old
      | inr new ↦ subst (λ n. has_name d.defined n ≡ false) (sym (same_name own name new)) absent
    ]

-- and with a new definition that is no variable's
AreApart-defined : (d : NamesData) (name : List ℕ) → AreApart d → has_name d.variables name ≡ false →
    AreApart (record { variables = d.variables; defined = d.defined ++ name ∷ [] })
AreApart-defined d name apart absent own there =
    elim (cases_Bool (bytes_eq own name)) [
      | inl same ↦ absurd (let e : true ≡ false = sym there ∙ subst (λ n. has_name d.variables n ≡ false) (sym (same_name own name same)) absent in cc)
      | inr other ↦ has_name_push d.defined name own ∙ ap (λ test. test || bytes_eq own name) (apart own there) ∙ other
    ]

-- neither of two tests
pub neither : (one other : Bool) → (one || other) ≡ false → (one ≡ false) × (other ≡ false)
neither true other none = absurd (let e : true ≡ false = none in cc)
neither false other none = (refl, none)

-- a name that is there adds nothing, and one that isn't is a new variable
pub with_name_there : (d : NamesData) (name : List ℕ) → (has_name d.defined name || has_name d.variables name) ≡ true → with_name d name ≡ d
with_name_there d name there = ap (λ test. if test then d else record d { variables = d.variables ++ name ∷ [] }) there

pub with_name_new : (d : NamesData) (name : List ℕ) → (has_name d.defined name || has_name d.variables name) ≡ false →
    with_name d name ≡ record d { variables = d.variables ++ name ∷ [] }
with_name_new d name absent = ap (λ test. if test then d else record d { variables = d.variables ++ name ∷ [] }) absent

-- variables are only added
pub with_name_front : (d : NamesData) (name : List ℕ) →
    (take (length d.variables) (with_name d name).variables ≡ d.variables) × (length d.variables ≤ length (with_name d name).variables)
with_name_front d name =
    elim (cases_Bool (has_name d.defined name || has_name d.variables name)) [
      | inl there ↦ subst (λ (e : NamesData). (take (length d.variables) e.variables ≡ d.variables) × (length d.variables ≤ length e.variables)) (sym (with_name_there d name there))
          (take_all (length d.variables) d.variables (omega arith), omega arith)
      | inr absent ↦ subst (λ (e : NamesData). (take (length d.variables) e.variables ≡ d.variables) × (length d.variables ≤ length e.variables)) (sym (with_name_new d name absent)) (
        take-append-le (length d.variables) d.variables (name ∷ []) (omega arith) ∙ take_all (length d.variables) d.variables (omega arith),
        omega (arith, length-append d.variables (name ∷ [])),
      )
    ]

pub with_names_longer : (names : List (List ℕ)) (d : NamesData) → length d.variables ≤ length (with_names names d).variables
with_names_longer [] d = omega arith
with_names_longer (name ∷ names) d =
    omega (arith, (with_name_front d name).1, with_names_longer names (with_name d name))

-- variables that were only added twice were only added
pub front_twice : (old mid new : List (List ℕ)) → take (length mid) new ≡ mid → take (length old) mid ≡ old → length old ≤ length mid →
    take (length old) new ≡ old
front_twice old mid new second first longer =
    sym (take-take (length old) (length mid) new longer) ∙ ap (take (length old)) second ∙ first

-- a line whose names bring the variables past the most is refused for that, and else for what it defines
pub names_fault_many : (d : NamesData) (line : LineData) → MOST_VARIABLES < length (with_names line.used d).variables → names_fault d line ≡ Some TooManyVariables
names_fault_many d line many =
    ap (λ test. if test then Some TooManyVariables else definition_fault (with_names line.used d) line.defines) (lt-ltb MOST_VARIABLES _ many)

pub names_fault_few : (d : NamesData) (line : LineData) → length (with_names line.used d).variables ≤ MOST_VARIABLES →
    names_fault d line ≡ definition_fault (with_names line.used d) line.defines
names_fault_few d line few =
    elim (cases_Bool (nat_lt MOST_VARIABLES (length (with_names line.used d).variables))) [
      | inl many ↦ absurd (omega (arith, few, ltb-true MOST_VARIABLES _ many))
      | inr less ↦ ap (λ test. if test then Some TooManyVariables else definition_fault (with_names line.used d) line.defines) less
    ]

-- names that a line uses keep variables and definitions apart
AreApart-names : (names : List (List ℕ)) (d : NamesData) → AreApart d → AreApart (with_names names d)
AreApart-names [] d apart = apart
AreApart-names (name ∷ names) d apart =
    AreApart-names names (with_name d name)
    (elim (cases_Bool (has_name d.defined name || has_name d.variables name)) [
      | inl there ↦ subst AreApart (sym (with_name_there d name there)) apart
      | inr absent ↦ subst AreApart (sym (with_name_new d name absent)) (AreApart-variable d name apart (neither _ _ absent).0)
    ])

-- so does a line that isn't refused, and there are no more variables than there may be
pub names_apart : NamesStayApart
names_apart d line are accepted = by line.defines (sym (names_fault_few d line few) ∙ accepted)
  where
    few : length (with_names line.used d).variables ≤ MOST_VARIABLES
    few = elim (cases_Bool (nat_lt MOST_VARIABLES (length (with_names line.used d).variables))) [
      | inl many ↦ absurd (let e : Some TooManyVariables ≡ None = sym (names_fault_many d line (ltb-true MOST_VARIABLES _ many)) ∙ accepted in cc)
      | inr less ↦ ltb-false MOST_VARIABLES _ less
    ]

    apart : AreApart (with_names line.used d)
    apart = AreApart-names line.used d are.apart

    by : (defines : Option (List ℕ)) → definition_fault (with_names line.used d) defines ≡ None → AreNames (with_definition (with_names line.used d) defines)
    by None free = record { few = few; apart = apart }
    by (Some name) free =
        elim (cases_Bool (has_name (with_names line.used d).defined name || has_name (with_names line.used d).variables name)) [
          | inl there ↦ absurd (let e : Some NameDefined ≡ None = sym (ap (λ test. if test then Some NameDefined else None) there) ∙ free in cc)
          | inr absent ↦ record { few = few; apart = AreApart-defined (with_names line.used d) name apart (neither _ _ absent).1 }
        ]
