-- A step of a machine beside a good run's.
-- After Bryant and Schuster, "Performance Evaluation of FMOSSIM, a Concurrent Switch-Level Fault Simulator", 1985.
use Rattle.std.specs.Prelude.{◌≡◌, ◌≢◌, ℕ, Bool, List, length, Option}
use Rattle.ternary.specs.declared.tern.Tern.{Tern}
use Rattle.switch_paths.specs.Switching.{state_at}
use Rattle.part_words.specs.declared.change.Change.{Change}
use Rattle.machine_parts.specs.declared.part.MachinePart.{MachinePart}
use Rattle.machine_parts.specs.Marking.{IsMarked}
use Rattle.machine_parts.specs.Parts.{HasMember}
use Rattle.machine_parts.specs.Running.{AreOwners}
use Rattle.machine_parts.specs.Stepping.{Concerns}
use Rattle.wide_groups.specs.Moving.{RetouchesIn}
use Rattle.machine_laws.specs.Machines.{MachineData, KeepsBuild, KeepsParts}
use Rattle.run_beside.specs.Stepping.{MovesBeside, RemarksBeside}

-- every part is apart that a node concerns which differs
abbrev pub KeepsPartsApart : List MachinePart → List Bool → List Tern → List Tern → Type 0
KeepsPartsApart parts apart good bad = (node : ℕ) → state_at bad node ≢ state_at good node → (k : ℕ) → Concerns parts k node → IsMarked apart k

-- a node follows the good run: it is a member of a part that isn't apart
abbrev pub FollowsByPart : List MachinePart → List Bool → ℕ → Type 0
FollowsByPart parts apart node = (k : ℕ) × HasMember parts k node × (¬ IsMarked apart k)

-- a step, plain or joining, beside a step of the good run that has these changes: nodes move, marks follow, parts come apart, and all else stays
pub record AdvancesBeside (joining : Bool) (changes : List Change) (old_apart new_apart : List Bool) (old new : MachineData) : Type 0 where
  pub owners : List (Option ℕ)
  pub owned : AreOwners old.parts (length old.state) owners
  pub moves_so : MovesBeside joining old.parts old.marks old.wide owners old_apart changes old.state new.state
  pub wide : RetouchesIn joining old.wide new.wide old.state new.state
  pub marks : RemarksBeside joining old.parts old.marks old.state new.state old_apart new_apart new.marks
  pub build : KeepsBuild old new
  pub held : KeepsParts old new
  pub moves : new.moves ≡ old.moves
  pub placed : new.placed ≡ old.placed
