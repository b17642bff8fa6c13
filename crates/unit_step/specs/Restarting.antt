-- A machine that starts again in another state.
use Rattle.std.specs.Prelude.{◌≡◌, ◌≢◌, ℕ, ◌<◌, Bool, List, length}
use Rattle.ternary.specs.declared.tern.Tern.{Tern}
use Rattle.switch_paths.specs.Switching.{state_at}
use Rattle.switch_paths.specs.Graphs.{GraphData}
use Rattle.machine_parts.specs.Marking.{IsMarked}
use Rattle.machine_laws.specs.Machines.{MachineData, KeepsBuild, KeepsParts}
use Rattle.machine_laws.specs.Fitting.{Covers, FitsGraph}

-- each part is marked
abbrev pub AllMarked : MachineData → Type 0
AllMarked m = (k : ℕ) → k < length m.parts → IsMarked m.marks k

-- the machine covers and fits the graph if it did before; its groups, parts, their texts and the room stay, and it has as many nodes and marks
pub record StaysOn (g : GraphData) (old new : MachineData) : Type 0 where
  pub covers : Covers g old → Covers g new
  pub fits : FitsGraph g old → FitsGraph g new
  pub build : KeepsBuild old new
  pub held : KeepsParts old new
  pub count : length new.state ≡ length old.state
  pub marks : length new.marks ≡ length old.marks

-- the node has the state, all others have theirs, and all else stays but marks and counts
pub record GivesNode (g : GraphData) (node : ℕ) (value : Tern) (old new : MachineData) : Type 0 where
  pub stays : StaysOn g old new
  pub given : state_at new.state node ≡ value
  pub others : (other : ℕ) → other ≢ node → state_at new.state other ≡ state_at old.state other

-- the nodes below this one have their states from the list, and all else stays but marks and counts
pub record GivesBelow (g : GraphData) (state : List Tern) (end : ℕ) (old new : MachineData) : Type 0 where
  pub stays : StaysOn g old new
  pub given : (node : ℕ) → node < end → state_at new.state node ≡ state_at state node

-- the parts with lower numbers are marked, and no mark is lost
pub record MarksBelow (end : ℕ) (old new : List Bool) : Type 0 where
  pub count : length new ≡ length old
  pub stays : (k : ℕ) → IsMarked old k → IsMarked new k
  pub set : (k : ℕ) → k < end → IsMarked new k

-- all parts are marked, and all else stays
pub record MarksParts (old new : MachineData) : Type 0 where
  pub marks : MarksBelow (length old.parts) old.marks new.marks
  pub rest : new ≡ record old { marks = new.marks }

-- the machine has this state, all its parts are marked, and nothing was moved or placed; it covers and fits the graph if it did before, and all else
-- stays but what is touched of the groups that are stepped by vicinities
pub record Restarts (g : GraphData) (state : List Tern) (old new : MachineData) : Type 0 where
  pub covers : Covers g old → Covers g new
  pub fits : FitsGraph g old → FitsGraph g new
  pub build : KeepsBuild old new
  pub held : KeepsParts old new
  pub state_is : new.state ≡ state
  pub marked : (k : ℕ) → k < length new.parts → IsMarked new.marks k
  pub counted : length new.marks ≡ length old.marks
  pub moves : new.moves ≡ 0
  pub placed : new.placed ≡ 0
