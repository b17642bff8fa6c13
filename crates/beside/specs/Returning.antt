-- Parts that go back to following the good run.
use Rattle.std.specs.Prelude.{◌≡◌, ℕ, ◌⊎◌, Bool, List, length, take, Contains}
use Rattle.ternary.specs.declared.tern.Tern.{Tern}
use Rattle.switch_paths.specs.Switching.{state_at}
use Rattle.machine_parts.specs.Marking.{IsMarked}
use Rattle.machine_parts.specs.Stepping.{Concerns}
use Rattle.machine_laws.specs.Machines.{MachineData}

-- the part with this number may go back: it isn't among these, isn't marked, and no node differs that concerns it
pub record MayGoBack (touched : List Bool) (m : MachineData) (good : List Tern) (k : ℕ) : Type 0 where
  pub untouched : ¬ IsMarked touched k
  pub unmarked : ¬ IsMarked m.marks k
  pub agreed : (node : ℕ) → Concerns m.parts k node → state_at m.state node ≡ state_at good node

-- the part is kept, or may go back; others are kept as before
pub record GoesBack (touched : List Bool) (m : MachineData) (good : List Tern) (k : ℕ) (old new : List Bool) : Type 0 where
  pub count : length new ≡ length old
  pub stays : (l : ℕ) → IsMarked old l → IsMarked new l
  pub only : (l : ℕ) → IsMarked new l → IsMarked old l ⊎ (l ≡ k)
  pub back : (¬ IsMarked new k) → MayGoBack touched m good k

-- the first of these parts are kept, or may go back
pub record ReturnsSoFar (touched : List Bool) (m : MachineData) (good : List Tern) (list : List ℕ) (i : ℕ) (kept : List Bool) : Type 0 where
  pub only : (k : ℕ) → IsMarked kept k → Contains (take i list) k
  pub back : (k : ℕ) → Contains (take i list) k → (¬ IsMarked kept k) → MayGoBack touched m good k
