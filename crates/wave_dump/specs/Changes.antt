-- What is written of one entry whose value may have changed.
use Rattle.std.specs.Prelude.{◌≡◌, ◌≢◌, ℕ, ◌<◌, Bool, true, List, [], ◌++◌, length, slice_index_or}
use Rattle.ternary.specs.declared.tern.Tern.{Tern}
use Rattle.wave_dump.specs.Dumps.{time_due}
use Rattle.wave_dump.specs.Entries.{ShownEntry, entries_of, shown_of, no_entry}
use Rattle.wave_dump.specs.Values.{value_in, value_line}

-- the value of the entry with this number in a state, and the one that was written last
abbrev pub new_value : List Tern → List ShownEntry → ℕ → List Tern
new_value state held number = value_in state (slice_index_or (entries_of held) number no_entry)

abbrev pub old_value : List ShownEntry → ℕ → List Tern
old_value held number = slice_index_or (shown_of held) number []

-- what is written of it if it changed: the time if that isn't told, and its line
abbrev pub change_of : List Tern → List ShownEntry → ℕ → Bool → ℕ → List ℕ
change_of state held number is_told time = time_due is_told time ++ value_line number (new_value state held number)

-- the entry with this number takes its value in a state, if there is one; if that is another one, it is written
pub record TakesValue (state : List Tern) (number time : ℕ) (is_told told : Bool) (old new : List ShownEntry) (before after : List ℕ) : Type 0 where
  pub entries : entries_of new ≡ entries_of old
  pub others : (k : ℕ) → k ≢ number → old_value new k ≡ old_value old k
  pub here : number < length old → old_value new number ≡ new_value state old number
  pub same : old_value new number ≡ old_value old number → (told ≡ is_told) × (after ≡ before)
  pub differs : old_value new number ≢ old_value old number → (told ≡ true) × (after ≡ before ++ change_of state old number is_told time)
