-- Laws of tables: which name stands for what, in a list of names that grows.
use Rattle.std.proofs.Common.{◌≡◌, ℕ, List, [], ◌∷◌, ◌++◌, Option, Some, None, bytes_eq, if◌then◌else◌, refl, ap, ◌∙◌, Vec}
use Rattle.std.specs.Map.{lookup}
use Rattle.std.specs.declared.alloc.Global.{Global}
use Rattle.std.proofs.lemmas.List.{map-append}
use Rattle.indexmap.specs.IndexMap.{IndexMap, insert_entry}
use Rattle.indexmap.proofs.CallerLemmas.{insert_entry-new}
use Rattle.spice_cards.specs.Entries.{entries_of}
use Rattle.spice_cards.specs.Tables.{named}

-- a look-up in a table finds what the name stands for
pub named-entries_of : {T : Type 0} (table : List (Vec ℕ Global × T)) (name : List ℕ) →
    lookup (λ key. bytes_eq name key.items) table ≡ named (entries_of table) name
named-entries_of [] name = refl
named-entries_of (entry ∷ table) name =
    ap (λ rest. if bytes_eq name entry.0.items then Some entry.1 else rest) (named-entries_of table name)

-- a name that stands for nothing is put behind the others
pub entries_of-new : {T S : Type 0} (old new : IndexMap (Vec ℕ Global) T S) (name : Vec ℕ Global) (value : T) →
    named (entries_of old.entries) name.items ≡ None →
    new.entries ≡ insert_entry (λ one two. bytes_eq one.items two.items) old.entries name value →
    entries_of new.entries ≡ entries_of old.entries ++ (name.items, value) ∷ []
entries_of-new old new name value absent inserted =
    ap entries_of (inserted ∙ insert_entry-new (λ one two. bytes_eq one.items two.items) old name value (named-entries_of old.entries name.items ∙ absent))
    ∙ map-append (λ entry. (entry.0.items, entry.1)) old.entries ((name, value) ∷ [])
