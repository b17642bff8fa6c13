-- A step of a machine beside a good run: which nodes take which values, and which parts are marked and apart afterwards.
use Rattle.std.specs.Prelude.{◌≡◌, ◌≢◌, ℕ, ◌⊎◌, Bool, List, length, Contains, Option}
use Rattle.ternary.specs.declared.tern.Tern.{Tern}
use Rattle.switch_paths.specs.Switching.{state_at}
use Rattle.switch_paths.specs.Step.{IsResponse}
use Rattle.part_words.specs.declared.change.Change.{Change}
use Rattle.part_words.specs.Noting.{after}
use Rattle.machine_parts.specs.declared.part.MachinePart.{MachinePart}
use Rattle.machine_parts.specs.Marking.{IsMarked}
use Rattle.machine_parts.specs.Stepping.{IsGiven, ReadsChange, StaysMarked}
use Rattle.vicinity.specs.Wides.{WideData}
use Rattle.wide_groups.specs.Moving.{graph_in, IsAwakeIn}
use Rattle.run_beside.specs.Following.{FollowsAt}

-- each node that is given a value takes it, each that is awake takes its steady state, each that follows and that these changes of the good run are of
-- takes its value there, and every other node stays
pub record MovesBeside (joining : Bool) (parts : List MachinePart) (marks : List Bool) (wide : Option WideData) (owners : List (Option ℕ)) (apart : List Bool)
    (changes : List Change) (old new : List Tern) : Type 0 where
  pub count : length new ≡ length old
  pub given : (node : ℕ) (value : Tern) → IsGiven parts marks old node value → state_at new node ≡ after joining (state_at old node) value
  pub awake : (node : ℕ) (value : Tern) → IsAwakeIn wide old node → IsResponse (graph_in wide) old node value →
      state_at new node ≡ after joining (state_at old node) value
  pub follows : (change : Change) → Contains changes change → FollowsAt owners apart change.node → state_at new change.node ≡ change.value
  pub stays : (node : ℕ) → ((value : Tern) → ¬ IsGiven parts marks old node value) → (¬ IsAwakeIn wide old node) →
      ((change : Change) → Contains changes change → FollowsAt owners apart change.node → change.node ≢ node) → state_at new node ≡ state_at old node

-- the parts are marked whose marks stay, those that came apart, and those that are apart and read a node that changed; each marked part is apart
pub record RemarksBeside (joining : Bool) (parts : List MachinePart) (old_marks : List Bool) (old new : List Tern) (old_apart new_apart : List Bool)
    (marks : List Bool) : Type 0 where
  pub count : length marks ≡ length old_marks
  pub count_apart : length new_apart ≡ length old_apart
  pub still_apart : (k : ℕ) → IsMarked old_apart k → IsMarked new_apart k
  pub stays : (k : ℕ) → StaysMarked joining parts old_marks k → IsMarked marks k
  pub entered : (k : ℕ) → IsMarked new_apart k → IsMarked old_apart k ⊎ IsMarked marks k
  pub reads : (k : ℕ) → ReadsChange parts old new k → IsMarked new_apart k → IsMarked marks k
  pub only : (k : ℕ) → IsMarked marks k → IsMarked new_apart k
