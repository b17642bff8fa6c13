-- Laws of names: which node a name stands for, and which name a node got first, in a list of names that grows.
use Rattle.std.proofs.Common.{◌≡◌, ℕ, ◌<◌, Bool, true, false, List, [], ◌∷◌, ◌++◌, Option, Some, None, IfSome, bytes_eq, ◌==◌, if◌then◌else◌, refl, ap, ◌∙◌, All, Vec, arith}
use Rattle.std.specs.Map.{lookup}
use Rattle.std.specs.declared.alloc.Global.{Global}
use Rattle.std.proofs.lemmas.Bool.{cond-true, cond-false, ne_eqb, eq-eqb}
use Rattle.std.proofs.lemmas.List.Elements.{All-head, All-tail}
use Rattle.std.proofs.lemmas.Slice.Eq.{bytes_eq-Decides}
use Rattle.std.proofs.lemmas.List.{map-append}
use Rattle.indexmap.specs.IndexMap.{IndexMap, insert_entry}
use Rattle.indexmap.proofs.CallerLemmas.{insert_entry-new}
use Rattle.netlist.specs.Names.{held, rail_or_held, rail_of, node_of, first_name}
use Rattle.netlist.specs.Naming.{entries_of}

-- a look-up in the table of the names finds the node under which the name is held
pub held-entries_of : (table : List (Vec ℕ Global × ℕ)) (name : List ℕ) →
    lookup (λ key. bytes_eq name key.items) table ≡ held (entries_of table) name
held-entries_of [] name = refl
held-entries_of (entry ∷ table) name =
    ap (λ rest. if bytes_eq name entry.0.items then Some entry.1 else rest) (held-entries_of table name)

-- where each name stands for a node, one that is held does
pub held-within : (entries : List (List ℕ × ℕ)) (name : List ℕ) (count : ℕ) →
    All (λ entry. entry.1 < count) entries → IfSome (held entries name) (λ node. node < count)
held-within [] name count within = tt
held-within (entry ∷ entries) name count within =
    by (bytes_eq name entry.0) (held entries name) (All-head (λ (e : List ℕ × ℕ). e.1 < count) entry entries within)
    (held-within entries name count (All-tail (λ (e : List ℕ × ℕ). e.1 < count) entry entries within))
  where
    by : (same : Bool) (rest : Option ℕ) → entry.1 < count → IfSome rest (λ node. node < count) →
        IfSome (if same then Some entry.1 else rest) (λ node. node < count)
    by true rest here later = here
    by false rest here later = later

-- a name that is held keeps its node if more names come after
pub held-append : (entries more : List (List ℕ × ℕ)) (name : List ℕ) (node : ℕ) → held entries name ≡ Some node →
    held (entries ++ more) name ≡ Some node
held-append [] more name node found = absurd (cc)
held-append (entry ∷ entries) more name node found =
    by (bytes_eq name entry.0) (held entries name) (held (entries ++ more) name) found (held-append entries more name node)
  where
    by : (same : Bool) (rest longer : Option ℕ) → (if same then Some entry.1 else rest) ≡ Some node →
        (rest ≡ Some node → longer ≡ Some node) → (if same then Some entry.1 else longer) ≡ Some node
    by true rest longer here later = here
    by false rest longer here later = later here

-- a name that isn't held is, once it is added
pub held-added : (entries : List (List ℕ × ℕ)) (name : List ℕ) (node : ℕ) → held entries name ≡ None →
    held (entries ++ (name, node) ∷ []) name ≡ Some node
held-added [] name node absent = cond-true (bytes_eq name name) (Some node) None ((bytes_eq-Decides name name).1 refl)
held-added (entry ∷ entries) name node absent =
    by (bytes_eq name entry.0) (held entries name) (held (entries ++ (name, node) ∷ []) name) absent (held-added entries name node)
  where
    by : (same : Bool) (rest longer : Option ℕ) → (if same then Some entry.1 else rest) ≡ None →
        (rest ≡ None → longer ≡ Some node) → (if same then Some entry.1 else longer) ≡ Some node
    by true rest longer here later = absurd (cc)
    by false rest longer here later = later here

-- a name that isn't in use spells no rail
pub rail_of-unused : (names : List (List ℕ × ℕ)) (name : List ℕ) → node_of names name ≡ None → rail_of name ≡ None
rail_of-unused names name absent = by (rail_of name) (held names name) absent
  where
    by : (rail named : Option ℕ) → rail_or_held rail named ≡ None → rail ≡ None
    by (Some r) named absent = absurd (cc)
    by None named absent = refl

-- and isn't held
pub held-unused : (names : List (List ℕ × ℕ)) (name : List ℕ) → node_of names name ≡ None → held names name ≡ None
held-unused names name absent = by (rail_of name) (held names name) absent
  where
    by : (rail named : Option ℕ) → rail_or_held rail named ≡ None → named ≡ None
    by (Some r) named absent = absurd (cc)
    by None named absent = absent

-- a name in use keeps its node if more names come after
pub node_of-append : (names more : List (List ℕ × ℕ)) (name : List ℕ) (node : ℕ) → node_of names name ≡ Some node →
    node_of (names ++ more) name ≡ Some node
node_of-append names more name node found =
    by (rail_of name) (held names name) (held (names ++ more) name) found (held-append names more name node)
  where
    by : (rail named longer : Option ℕ) → rail_or_held rail named ≡ Some node → (named ≡ Some node → longer ≡ Some node) →
        rail_or_held rail longer ≡ Some node
    by (Some r) named longer found later = found
    by None named longer found later = later found

-- a name that isn't in use stands for its node once it is added
pub node_of-added : (names : List (List ℕ × ℕ)) (name : List ℕ) (node : ℕ) → node_of names name ≡ None →
    node_of (names ++ (name, node) ∷ []) name ≡ Some node
node_of-added names name node absent =
    ap (λ rail. rail_or_held rail (held (names ++ (name, node) ∷ []) name)) (rail_of-unused names name absent)
    ∙ held-added names name node (held-unused names name absent)

-- a node keeps its first name if more names come after
pub first_name-append : (entries more : List (List ℕ × ℕ)) (node : ℕ) (name : List ℕ) → first_name entries node ≡ Some name →
    first_name (entries ++ more) node ≡ Some name
first_name-append [] more node name found = absurd (cc)
first_name-append (entry ∷ entries) more node name found =
    by (entry.1 == node) (first_name entries node) (first_name (entries ++ more) node) found (first_name-append entries more node name)
  where
    by : (same : Bool) (rest longer : Option (List ℕ)) → (if same then Some entry.0 else rest) ≡ Some name →
        (rest ≡ Some name → longer ≡ Some name) → (if same then Some entry.0 else longer) ≡ Some name
    by true rest longer here later = here
    by false rest longer here later = later here

-- a node past those that have names has its first name in the one that is added for it
pub first_name-added : (entries : List (List ℕ × ℕ)) (node : ℕ) (name : List ℕ) → All (λ entry. entry.1 < node) entries →
    first_name (entries ++ (name, node) ∷ []) node ≡ Some name
first_name-added [] node name within = cond-true (node == node) (Some name) None (eq-eqb node node refl)
first_name-added (entry ∷ entries) node name within =
    let low : entry.1 < node = All-head (λ (e : List ℕ × ℕ). e.1 < node) entry entries within in
    cond-false (entry.1 == node) (Some entry.0) (first_name (entries ++ (name, node) ∷ []) node) (ne_eqb entry.1 node (λ same. omega arith))
    ∙ first_name-added entries node name (All-tail (λ (e : List ℕ × ℕ). e.1 < node) entry entries within)

-- a name that isn't held is put behind the others
pub entries_of-new : {S : Type 0} (old new : IndexMap (Vec ℕ Global) ℕ S) (name : Vec ℕ Global) (node : ℕ) →
    held (entries_of old.entries) name.items ≡ None →
    new.entries ≡ insert_entry (λ one two. bytes_eq one.items two.items) old.entries name node →
    entries_of new.entries ≡ entries_of old.entries ++ (name.items, node) ∷ []
entries_of-new old new name node absent inserted =
    ap entries_of (inserted ∙ insert_entry-new (λ one two. bytes_eq one.items two.items) old name node (held-entries_of old.entries name.items ∙ absent))
    ∙ map-append (λ entry. (entry.0.items, entry.1)) old.entries ((name, node) ∷ [])
