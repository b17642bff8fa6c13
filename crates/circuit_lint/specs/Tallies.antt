-- A tally of dead switches, by what they are like: it is made over all places, and each likeness is taken out at its first place.
use Rattle.std.specs.Prelude.{◌≡◌, ℕ, ◌==◌, List, take, count_by, Option, Some, None, if◌then◌else◌}
use Rattle.std.specs.List.{list_any}
use Rattle.indexmap.specs.IndexMap.{IndexMap, get}
use Rattle.table_keys.specs.declared.TableKeys.{TableKeys}
use Rattle.switch_paths.specs.declared.switching.Switch.{Switch}
use Rattle.circuit_lint.specs.declared.counted.Counted.{Counted}
use Rattle.circuit_lint.specs.Dead.{same_switch, is_dead, likeness, is_dead_like}

-- numbers by likenesses
abbrev pub Tally : Type 0
Tally = IndexMap Switch ℕ TableKeys

-- the number of a likeness
abbrev pub count_at : Tally → Switch → Option ℕ
count_at tally alike = get same_switch tally alike

-- a number that isn't 0
abbrev pub some_number : ℕ → Option ℕ
some_number count = if count == 0 then None else Some count

-- how many dead switches of a likeness stand at these places, if there are some
abbrev pub number_of : List (Option Switch) → Switch → Option ℕ
number_of places alike = some_number (count_by (is_dead_like alike) places)

-- each likeness has its number at these places
abbrev pub AreTallied : List (Option Switch) → Tally → Type 0
AreTallied places tally = (alike : Switch) → count_at tally alike ≡ number_of places alike

-- each likeness that hasn't stood before this place has its number at all places, and the others have none
abbrev pub AreLeft : List (Option Switch) → ℕ → Tally → Type 0
AreLeft places count tally =
    (alike : Switch) → count_at tally alike ≡ (if list_any (is_dead_like alike) (take count places) then None else number_of places alike)

-- the number at which the likeness of the dead switch at a place stands
abbrev pub taken_of : Option Switch → Tally → Option ℕ
taken_of None tally = None
taken_of (Some switch) tally = if is_dead switch then count_at tally (likeness switch) else None

-- the likeness of the dead switch at a place was taken out, and the others are as before
abbrev pub LeavesOthers : Option Switch → Tally → Tally → Type 0
LeavesOthers place old new = (alike : Switch) → count_at new alike ≡ (if is_dead_like alike place then None else count_at old alike)

-- a place, with a number if there is one
abbrev pub counted_at : ℕ → Option ℕ → Option Counted
counted_at place None = None
counted_at place (Some count) = Some (record { number = place; count = count })
