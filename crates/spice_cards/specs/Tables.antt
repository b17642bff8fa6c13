-- Tables of what names stand for, in the order in which they came; the first one of a name counts.
use Rattle.std.specs.Prelude.{ℕ, List, [], ◌∷◌, ◌++◌, bytes_eq, is_some, Option, Some, None, if◌then◌else◌}

-- what a name stands for, where it stands for something
abbrev pub named : {T : Type 0} → List (List ℕ × T) → List ℕ → Option T
named [] name = None
named (entry ∷ entries) name = if bytes_eq name entry.0 then Some entry.1 else named entries name

-- the table with this for the name, unless the name stands for something already
abbrev pub with_first : {T : Type 0} → List (List ℕ × T) → List ℕ → T → List (List ℕ × T)
with_first entries name value = if is_some (named entries name) then entries else entries ++ (name, value) ∷ []
