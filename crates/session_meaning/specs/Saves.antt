-- The states that are kept under names, and what comes back of them.
use Rattle.std.specs.Prelude.{ℕ, Bool, ◌≤◌, not, List, [], ◌∷◌, ◌++◌, length, drop, find, count_by, All, bytes_eq, option_map, unwrap_or, Option, if◌then◌else◌}
use Rattle.ternary.specs.declared.tern.Tern.{Tern}
use Rattle.switch_paths.specs.Rails.{IsSound}
use Rattle.switch_paths.specs.declared.TheConstants.{RAILS}

-- they are kept under this name, compared byte by byte
abbrev pub is_under : List ℕ → List ℕ × List Tern → Bool
is_under name save = bytes_eq name save.0

-- the states that are kept under a name
abbrev pub kept_under : List (List ℕ × List Tern) → List ℕ → Option (List Tern)
kept_under saves name = option_map (λ save. save.1) (find (is_under name) saves)

-- what is kept with these states under the name, in the place of those that it kept, or else behind the others
abbrev pub with_save : List (List ℕ × List Tern) → List ℕ → List Tern → List (List ℕ × List Tern)
with_save [] name state = (name, state) ∷ []
with_save (save ∷ saves) name state = if is_under name save then (name, state) ∷ saves else save ∷ with_save saves name state

-- how many other names keep states
abbrev pub other_saves : List (List ℕ × List Tern) → List ℕ → ℕ
other_saves saves name = count_by (λ save. not (is_under name save)) saves

-- the states that were kept, and behind them those of the nodes that were made since
abbrev pub back_to : List Tern → List Tern → List Tern
back_to kept state = kept ++ drop (length kept) state

-- what `back` makes of a state: if nothing is kept it stays
abbrev pub state_back : List (List ℕ × List Tern) → List ℕ → List Tern → List Tern
state_back saves name state = back_to (unwrap_or (kept_under saves name) []) state

-- states that are kept are those of no more nodes than there are, with the rails at theirs
pub record FitsSave (count : ℕ) (state : List Tern) : Type 0 where
  pub few : length state ≤ count
  pub railed : RAILS ≤ length state
  pub sound : IsSound state

-- so are all that are kept
abbrev pub AreSaves : ℕ → List (List ℕ × List Tern) → Type 0
AreSaves count saves = All (λ save. FitsSave count save.1) saves
