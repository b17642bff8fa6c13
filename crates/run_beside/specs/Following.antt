-- The changes of the good run's step, and which of them the run under a fault takes over.
use Rattle.std.specs.Prelude.{◌≡◌, ◌≢◌, ℕ, List, length, Contains, Option, None, Some, Bool, slice_index_or}
use Rattle.ternary.specs.declared.tern.Tern.{Tern}
use Rattle.switch_paths.specs.Switching.{state_at}
use Rattle.part_words.specs.declared.change.Change.{Change}
use Rattle.machine_parts.specs.Marking.{IsMarked}

-- of these changes those at the asked nodes are written, and every other node stays
pub record IsWritten (Asked : ℕ → Type 0) (changes : List Change) (old new : List Tern) : Type 0 where
  pub count : length new ≡ length old
  pub taken : (change : Change) → Contains changes change → Asked change.node → state_at new change.node ≡ change.value
  pub stays : (node : ℕ) → ((change : Change) → Contains changes change → Asked change.node → change.node ≢ node) → state_at new node ≡ state_at old node

-- a node follows the good run: the part that it is a member of isn't apart
abbrev pub FollowsAt : List (Option ℕ) → List Bool → ℕ → Type 0
FollowsAt owners apart node = (k : ℕ) × (slice_index_or owners node None ≡ Some k) × (¬ IsMarked apart k)
