-- Capacitances: what `C` lines add to names, and the size that the capacitance of a node gives it. All in thousandths of the unit that
-- the lines are written in.
use Rattle.std.specs.Prelude.{◌≡◌, ℕ, ◌+◌, Bool, true, false, ◌==◌, List, [], ◌∷◌, bytes_eq, count_by, nat_le, Option, Some, None, if◌then◌else◌}
use Rattle.std.specs.List.{sum_by}
use Rattle.std.specs.Option.{option_map_or}
use Rattle.line_words.specs.Points.{thousandths_of}
use Rattle.netlist.specs.Names.{node_of}

-- how much was added to each name, in the order in which the names came
abbrev pub NameSums : Type 0
NameSums = List (List ℕ × ℕ)

-- what was added to the names of a set
abbrev pub added_among : NameSums → (List ℕ → Bool) → ℕ
added_among sums among = sum_by (λ sum. if among sum.0 then sum.1 else 0) sums

-- all that was added
abbrev pub all_added : NameSums → ℕ
all_added sums = added_among sums (λ name. true)

-- so much more is added to a name; a new name stands behind the others
abbrev pub with_more : NameSums → List ℕ → ℕ → NameSums
with_more [] name more = (name, more) ∷ []
with_more (sum ∷ sums) name more =
    if bytes_eq name sum.0 then (sum.0, sum.1 + more) ∷ sums else sum ∷ with_more sums name more

-- so much more is added to two names, once if both are one
abbrev pub with_both : NameSums → List ℕ → List ℕ → ℕ → NameSums
with_both sums first second more =
    if bytes_eq first second then with_more sums first more else with_more (with_more sums first more) second more

-- the same, if a value is written
abbrev pub with_value : NameSums → List ℕ → List ℕ → Option ℕ → NameSums
with_value sums first second None = sums
with_value sums first second (Some more) = with_both sums first second more

-- a line of capacitance, by the words after its first: the third is added to the first and to the second; fewer words add nothing
abbrev pub with_line : NameSums → List (List ℕ) → NameSums
with_line sums [] = sums
with_line sums (first ∷ []) = sums
with_line sums (first ∷ second ∷ []) = sums
with_line sums (first ∷ second ∷ value ∷ words) = with_value sums first second (thousandths_of value)

-- the name is one of the node's
abbrev pub is_of : List (List ℕ × ℕ) → ℕ → List ℕ → Bool
is_of names node name = option_map_or (λ other. other == node) (node_of names name) false

-- the size of a node with this capacitance: 1, and one more for each threshold that it comes up to
abbrev pub size_by : List ℕ → ℕ → ℕ
size_by thresholds capacitance = 1 + count_by (λ threshold. nat_le threshold capacitance) thresholds

-- two lines add the same to the names of each set, in either order
abbrev pub AddInAnyOrder : Type 0
AddInAnyOrder =
    (sums : NameSums) (first second : List (List ℕ)) (among : List ℕ → Bool)
    → added_among (with_line (with_line sums first) second) among ≡ added_among (with_line (with_line sums second) first) among
