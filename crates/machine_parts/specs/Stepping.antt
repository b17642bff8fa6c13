-- A step of a machine: each member of a marked part gets what the part's code gives, all under the same old state.
-- After Bryant, Beatty, Brace, Cho and Sheffler, "COSMOS: A Compiled Simulator for MOS Circuits", 1987.
use Rattle.std.specs.Prelude.{◌≡◌, ◌≢◌, ℕ, ◌⊎◌, Bool, true, false, List, length, map, Some}
use Rattle.std.specs.declared.rc.Rc.{Rc}
use Rattle.std.proofs.Common.{Global}
use Rattle.ternary.specs.declared.tern.Tern.{Tern}
use Rattle.part_words.specs.Noting.{after}
use Rattle.switch_paths.specs.Switching.{state_at}
use Rattle.straight_code.specs.Code.{CodeData, code_value}
use Rattle.machine_parts.specs.declared.part.MachinePart.{MachinePart}
use Rattle.machine_parts.specs.Parts.{Stands, IsMemberAt, HasMember, ReadsAt, IsStale}
use Rattle.machine_parts.specs.Marking.{IsMarked}

-- the code of the part with this number gives the value to the node, from the states of the nodes of its map
pub record Gives (parts : List MachinePart) (state : List Tern) (k node : ℕ) (value : Tern) : Type 0 where
  pub part : MachinePart
  pub stands : Stands parts k part
  pub code : Rc CodeData Global
  pub has : part.code ≡ Some code
  pub place : ℕ
  pub member : IsMemberAt part place node
  pub value_is : value ≡ state_at (code_value code.value (map (state_at state) part.map.items)) place

-- the code of some marked part gives the value to the node
pub record IsGiven (parts : List MachinePart) (marks : List Bool) (state : List Tern) (node : ℕ) (value : Tern) : Type 0 where
  pub k : ℕ
  pub marked : IsMarked marks k
  pub gives : Gives parts state k node value

-- each node that is given a value takes it, and every other node stays
pub record Moves (joining : Bool) (parts : List MachinePart) (marks : List Bool) (old new : List Tern) : Type 0 where
  pub count : length new ≡ length old
  pub given : (node : ℕ) (value : Tern) → IsGiven parts marks old node value → state_at new node ≡ after joining (state_at old node) value
  pub stays : (node : ℕ) → ((value : Tern) → ¬ IsGiven parts marks old node value) → state_at new node ≡ state_at old node

-- the part with this number reads a node that changed
pub record ReadsChange (parts : List MachinePart) (old new : List Tern) (k : ℕ) : Type 0 where
  pub node : ℕ
  pub reads : ReadsAt parts k node
  pub changed : state_at new node ≢ state_at old node

-- a joining step leaves all marks, a plain one those of stale parts
abbrev pub StaysMarked : Bool → List MachinePart → List Bool → ℕ → Type 0
StaysMarked true parts marks k = IsMarked marks k
StaysMarked false parts marks k = IsMarked marks k × IsStale parts k

-- the marked parts are those whose marks stay, and those that read a node that changed
pub record Remarks (joining : Bool) (parts : List MachinePart) (old_marks : List Bool) (old new : List Tern) (marks : List Bool) : Type 0 where
  pub count : length marks ≡ length old_marks
  pub stays : (k : ℕ) → StaysMarked joining parts old_marks k → IsMarked marks k
  pub reads : (k : ℕ) → ReadsChange parts old new k → IsMarked marks k
  pub only : (k : ℕ) → IsMarked marks k → StaysMarked joining parts old_marks k ⊎ ReadsChange parts old new k

-- the part with this number has the node as a member or reads it
abbrev pub Concerns : List MachinePart → ℕ → ℕ → Type 0
Concerns parts k node = HasMember parts k node ⊎ ReadsAt parts k node
