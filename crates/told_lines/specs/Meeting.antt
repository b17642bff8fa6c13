-- Lines that go on to another hearer, and whether an expectation among them was not met.
use Rattle.std.specs.Prelude.{◌≡◌, Bool, ◌||◌, List}
use Rattle.std.specs.List.{list_any}
use Rattle.told_lines.specs.Lines.{Told, is_unmet}

-- the other one hears one line more, and whether it is of an expectation that is not met is remembered
abbrev pub hear_met : {H : Type 0} → (H → Told → H) → H × Bool → Told → H × Bool
hear_met hear before told = (hear before.0 told, before.1 || is_unmet told.line)

-- the other one hears a part of it, and the rest is as ever
abbrev pub part_met : {H : Type 0} → (H → Told → H → Type 0) → H × Bool → Told → H × Bool → Type 0
part_met part before told after = part before.0 told after.0 × (after.1 ≡ (before.1 || is_unmet told.line))

-- an expectation among these lines is not met
abbrev pub has_unmet : List Told → Bool
has_unmet lines = list_any (λ told. is_unmet told.line) lines
