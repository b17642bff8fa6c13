-- How parts that wait are run together, while others are taken in.
use Rattle.std.specs.Prelude.{◌≡◌, ℕ, ◌+◌, ◌*◌, ◌<◌, ◌≤◌, ◌⊎◌, Bool, List, length, All, Contains, Option, Some, option_map, unwrap_or, slice_get}
use Rattle.std.specs.declared.rc.Rc.{Rc}
use Rattle.std.proofs.Common.{Global}
use Rattle.ternary.specs.declared.tern.Tern.{Tern}
use Rattle.straight_code.specs.Code.{CodeData}
use Rattle.part_words.specs.declared.change.Change.{Change}
use Rattle.part_words.specs.Noting.{map_at, IsNotedAt}
use Rattle.machine_parts.specs.declared.part.MachinePart.{MachinePart}
use Rattle.part_steps.specs.declared.dense.Seat.{Seat}
use Rattle.machine_parts.specs.Marking.{IsMarked}
use Rattle.machine_parts.specs.Evaluating.{Rooms, IsChange}
use Rattle.part_steps.specs.Waiting.{Slot, Waits}

-- how many outputs the code at this place has, and how many instructions
abbrev pub outputs_at : List (Rc CodeData Global) → ℕ → ℕ
outputs_at codes place = unwrap_or (option_map (λ (code : Rc CodeData Global). length code.value.outputs) (slice_get codes place)) 0

abbrev pub instructions_at : List (Rc CodeData Global) → ℕ → ℕ
instructions_at codes place = unwrap_or (option_map (λ (code : Rc CodeData Global). length code.value.instructions) (slice_get codes place)) 0

-- the code of the seat is there, its map is one of so many nodes, the outputs stand for nodes of the map, and there is room
pub record CanRun (count : ℕ) (room : Rooms) (codes : List (Rc CodeData Global)) (nodes : List ℕ) (seat : Seat) : Type 0 where
  pub code : Rc CodeData Global
  pub there : slice_get codes seat.code ≡ Some code
  pub inside : seat.at + code.value.inputs ≤ length nodes
  pub below : All (λ node. node < count) (map_at nodes code.value.inputs seat.at)
  pub front : length code.value.outputs ≤ code.value.inputs
  pub value_room : 2 + 2 * code.value.inputs + length code.value.instructions ≤ room.values

-- what the code of the seat gives makes a node of its map change so
pub record IsNotedBy (joining : Bool) (codes : List (Rc CodeData Global)) (nodes : List ℕ) (state : List Tern) (seat : Seat) (change : Change) : Type 0 where
  pub code : Rc CodeData Global
  pub there : slice_get codes seat.code ≡ Some code
  pub noted : IsNotedAt joining code.value nodes state seat.at change

-- some of those that wait were run: what they change is noted, and nothing else
pub record RunsSome (joining : Bool) (codes : List (Rc CodeData Global)) (nodes : List ℕ) (state : List Tern) (waited now : List Slot)
    (old new : List Change) : Type 0 where
  pub kept : (change : Change) → Contains old change → Contains new change
  pub left : (seat : Seat) → Waits waited seat → Waits now seat ⊎ ((change : Change) → IsNotedBy joining codes nodes state seat change → Contains new change)
  pub stays : (seat : Seat) → Waits now seat → Waits waited seat
  pub only : (change : Change) → Contains new change →
      Contains old change ⊎ ((seat : Seat) × Waits waited seat × IsNotedBy joining codes nodes state seat change)

-- some of those that wait were run, and then the one with this seat waits too
pub record TakesIn (joining : Bool) (codes : List (Rc CodeData Global)) (nodes : List ℕ) (state : List Tern) (seat : Seat) (waited now : List Slot)
    (old new : List Change) : Type 0 where
  pub between : List Slot
  pub runs : RunsSome joining codes nodes state waited between old new
  pub waits : Waits now seat
  pub others : (one : Seat) → Waits between one → Waits now one
  pub only : (one : Seat) → Waits now one → Waits between one ⊎ (one ≡ seat)

-- some of the marked parts were evaluated, none of which waits for code: they aren't marked any more, and the changes that they make are
-- noted, but for those whose seats wait to be run
pub record EvaluatedBut (joining : Bool) (parts : List MachinePart) (state : List Tern) (waiting before marks : List Bool)
    (seats : List (Option Seat))
    (slots : List Slot) (changes : List Change) (done : List ℕ) : Type 0 where
  pub fewer : (k : ℕ) → IsMarked marks k → IsMarked before k
  pub marked : (k : ℕ) → Contains done k → IsMarked before k
  pub ready : (k : ℕ) → Contains done k → ¬ IsMarked waiting k
  pub popped : (k : ℕ) → IsMarked before k → IsMarked marks k ⊎ Contains done k
  pub noted : (k : ℕ) (change : Change) → Contains done k → IsChange joining parts state k change →
      Contains changes change ⊎ ((seat : Seat) × (slice_get seats k ≡ Some (Some seat)) × Waits slots seat)
  pub only : (change : Change) → Contains changes change → (k : ℕ) × Contains done k × IsChange joining parts state k change
  pub taken : (seat : Seat) → Waits slots seat → (k : ℕ) × Contains done k × (slice_get seats k ≡ Some (Some seat))
