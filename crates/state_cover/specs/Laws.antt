-- The law of notes, proved as the contract of a function in `src/laws.rt`.
use Rattle.std.specs.Prelude.{◌≡◌, ℕ, ◌<◌, ◌↔◌, ◌⊎◌, List, [], ◌∷◌, length, IsTrue}
use Rattle.ternary.specs.declared.tern.Tern.{Tern}
use Rattle.ternary.specs.declared.tern.Tern.TheVariants.{Zero, One}
use Rattle.switch_paths.specs.Switching.{state_at}
use Rattle.settling.specs.Passing.{see_all}
use Rattle.state_cover.specs.declared.had.Had.{Had}
use Rattle.state_cover.specs.Cover.{had_after, had_at}

-- in one of these states the node is there and has this value
abbrev pub HasIn : List (List Tern) → ℕ → Tern → Type 0
HasIn [] node value = ⊥
HasIn (states ∷ passed) node value = ((node < length states) × (state_at states node ≡ value)) ⊎ HasIn passed node value

-- the notes tell of each node whether it was 0 in one of these states, and whether it was 1
abbrev pub TellStates : List (List Tern) → List Had → Type 0
TellStates passed hads =
    (node : ℕ) → (IsTrue (had_at hads node).zero ↔ HasIn passed node Zero) × (IsTrue (had_at hads node).one ↔ HasIn passed node One)

-- of states that were noted one after the other the notes tell just that
abbrev pub NotesTellTheStates : Type 0
NotesTellTheStates = (passed : List (List Tern)) → TellStates passed (see_all had_after [] passed)
