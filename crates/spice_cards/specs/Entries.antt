-- The entries of a table, as contracts see them.
use Rattle.std.specs.Prelude.{ℕ, List, map, Vec}
use Rattle.std.specs.declared.alloc.Global.{Global}

-- the names and what they stand for
abbrev pub entries_of : {T : Type 0} → List (Vec ℕ Global × T) → List (List ℕ × T)
entries_of table = map (λ entry. (entry.0.items, entry.1)) table
