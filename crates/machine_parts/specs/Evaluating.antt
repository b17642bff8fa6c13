-- Evaluation: what is noted of a step before any state is written.
use Rattle.std.specs.Prelude.{◌≡◌, ◌≢◌, ℕ, ◌+◌, ◌*◌, ◌<◌, ◌≤◌, ◌⊎◌, Bool, List, length, All, Contains, Some, slice_index}
use Rattle.std.specs.declared.rc.Rc.{Rc}
use Rattle.std.proofs.Common.{Global}
use Rattle.ternary.specs.declared.tern.Tern.{Tern}
use Rattle.switch_paths.specs.Switching.{state_at}
use Rattle.straight_code.specs.Code.{CodeData}
use Rattle.machine_parts.specs.declared.part.MachinePart.{MachinePart}
use Rattle.part_words.specs.declared.change.Change.{Change}
use Rattle.part_words.specs.Noting.{after}
use Rattle.machine_parts.specs.Marking.{IsMarked}
use Rattle.machine_parts.specs.Stepping.{Gives}

-- how much room a step has: for all that a code reads, for nodes that change, and for parts
pub record Rooms : Type 0 where
  pub values : ℕ
  pub changes : ℕ
  pub parts : ℕ

-- the code has an input for each node of the part's map and an output for each member, and there is room for it
pub record IsSeatedCode (room : Rooms) (part : MachinePart) (code : CodeData) : Type 0 where
  pub inputs : length part.map.items ≡ code.inputs
  pub outputs : length code.outputs ≡ part.members
  pub value_room : 2 + 2 * code.inputs + length code.instructions ≤ room.values

-- the part's nodes are there, no two places of its map have one node, and its code fits it
pub record IsSeated (count : ℕ) (room : Rooms) (part : MachinePart) : Type 0 where
  pub below : All (λ node. node < count) part.map.items
  pub members : part.members ≤ length part.map.items
  pub apart : (i j : ℕ) → i < length part.map.items → j < length part.map.items →
      slice_index part.map.items i ≡ slice_index part.map.items j → i ≡ j
  pub coded : (code : Rc CodeData Global) → part.code ≡ Some code → IsSeatedCode room part code.value

-- what the code of the part with this number gives makes the node change so
pub record IsChange (joining : Bool) (parts : List MachinePart) (state : List Tern) (k : ℕ) (change : Change) : Type 0 where
  pub given : Tern
  pub gives : Gives parts state k change.node given
  pub value : change.value ≡ after joining (state_at state change.node) given
  pub differs : change.value ≢ state_at state change.node

-- some of the marked parts were evaluated, none of which waits: they aren't marked any more, and the changes that they make are noted
pub record Evaluated (joining : Bool) (parts : List MachinePart) (state : List Tern) (waiting : List Bool) (before marks : List Bool)
    (changes : List Change) (done : List ℕ) : Type 0 where
  pub fewer : (k : ℕ) → IsMarked marks k → IsMarked before k
  pub marked : (k : ℕ) → Contains done k → IsMarked before k
  pub ready : (k : ℕ) → Contains done k → ¬ IsMarked waiting k
  pub popped : (k : ℕ) → IsMarked before k → IsMarked marks k ⊎ Contains done k
  pub noted : (k : ℕ) (change : Change) → Contains done k → IsChange joining parts state k change → Contains changes change
  pub only : (change : Change) → Contains changes change → (k : ℕ) × Contains done k × IsChange joining parts state k change
