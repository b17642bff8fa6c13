-- The ports of a subcircuit that is called, with the words at the same places of the call's card.
use Rattle.std.specs.Prelude.{◌≡◌, ℕ, List, [], length, map, zip, Option, IfSome}
use Rattle.std.specs.Borrow.{Bor}
use Rattle.indexmap.specs.IndexMap.{IndexMap}
use Rattle.table_keys.specs.declared.TableKeys.{TableKeys}
use Rattle.spice_read.specs.Scopes.{with_each}

-- the ports, and the words for them
pub record PortsData : Type 0 where
  pub ports : List (List ℕ)
  pub words : List (List ℕ)

-- the names of a table with what they stand for
abbrev pub entries_of : List (Bor (List ℕ) × Bor (List ℕ)) → List (List ℕ × List ℕ)
entries_of table = map (λ entry. (entry.0.now, entry.1.now)) table

-- there is a word for each port, and the table, if there is one, has of each name the word at its last place
pub record IsPorts (ports words : List (List ℕ)) (table : Option (IndexMap (Bor (List ℕ)) (Bor (List ℕ)) TableKeys)) : Type 0 where
  pub counted : length ports ≡ length words
  pub last : IfSome table (λ t. entries_of t.entries ≡ with_each [] (zip ports words))
