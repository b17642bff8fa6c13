-- Which of 0 and 1 each node had.
use Rattle.std.specs.Prelude.{◌≡◌, ℕ, ◌<◌, true, false, List, [], ◌∷◌, length, slice_index_or}
use Rattle.ternary.specs.declared.tern.Tern.{Tern}
use Rattle.ternary.specs.declared.tern.Tern.TheVariants.{Zero, One, Unk}
use Rattle.switch_paths.specs.Switching.{state_at}
use Rattle.state_cover.specs.declared.had.Had.{Had}

-- a node that had nothing yet
abbrev pub none_had : Had
none_had = record { zero = false; one = false }

-- what a node had, after it has this state
abbrev pub had_more : Had → Tern → Had
had_more had Zero = record had { zero = true }
had_more had One = record had { one = true }
had_more had Unk = had

-- what all nodes had, after they have these states; nodes that are new had nothing before
abbrev pub had_after : List Had → List Tern → List Had
had_after hads [] = hads
had_after [] (state ∷ states) = had_more none_had state ∷ had_after [] states
had_after (had ∷ hads) (state ∷ states) = had_more had state ∷ had_after hads states

-- what this node had, by the notes
abbrev pub had_at : List Had → ℕ → Had
had_at hads node = slice_index_or hads node none_had

-- the states are noted: there is a note for each node, and it has what the node has
pub record Knows (hads : List Had) (states : List Tern) : Type 0 where
  pub count : length hads ≡ length states
  pub noted : (node : ℕ) → node < length states → had_more (had_at hads node) (state_at states node) ≡ had_at hads node

-- the state of this node is noted, and all other notes stay
pub record Notes (node : ℕ) (states : List Tern) (old new : List Had) : Type 0 where
  pub count : length new ≡ length old
  pub noted : had_at new node ≡ had_more (had_at old node) (state_at states node)
  pub stays : (other : ℕ) → (other ≡ node → ⊥) → had_at new other ≡ had_at old other
