-- What calls of a machine's stage do to it, and what an act is there.
use Rattle.std.specs.Prelude.{◌≡◌, ◌≢◌, ℕ, ◌<◌, ◌⊎◌, Bool, false, List, [], ◌∷◌, All, Option, None, Some, IfSome}
use Rattle.ternary.specs.declared.tern.Tern.{Tern}
use Rattle.ternary.specs.Counts.{raised}
use Rattle.strength_order.specs.declared.TheConstants.{INPUT_LEVEL}
use Rattle.switch_paths.specs.Graphs.{GraphData, level_of}
use Rattle.switch_paths.specs.Step.{IsStep}
use Rattle.settling.specs.declared.settling.Settled.{Settled}
use Rattle.settling.specs.Settling.{Settles}
use Rattle.group_text.specs.Texts.{GroupTextData}
use Rattle.machine_parts.specs.declared.part.MachinePart.{MachinePart}
use Rattle.machine_parts.specs.Parts.{HasMember, IsStale}
use Rattle.machine_laws.specs.Machines.{MachineData, Places, TouchesChanged, IsAtRest}
use Rattle.machine_parts.specs.Marking.{IsMarked}
use Rattle.machine_parts.specs.Stepping.{ReadsChange}
use Rattle.machine_laws.specs.Fitting.{Covers, FitsGraph, IsKeptBy}
use Rattle.machine_laws.specs.Editing.{Edits}
use Rattle.channel_groups.specs.declared.change.Change.{Change}
use Rattle.column_stage.specs.Acts.{Act, Reserved, Placed, Edited, Built, Stepped, Rested}
use Rattle.column_stage.specs.Columns.{letter_in}
use Rattle.session_meaning.specs.Sessions.{ClockData}
use Rattle.machine_stage.specs.Machines.{StageData, ConcernsGiven, ConcernsOther, StaysKnownIn, moves_of, placed_of}

-- the machine that is there fits the graph: it is the one from before with its stale parts made, or a new one; its state is the one from
-- before, and it neither moved nor had a member placed; the groups that it steps by vicinities are known still, if no others came to be
-- stepped so
pub record BuiltFrom (large : ℕ) (g : GraphData) (old new : StageData) : Type 0 where
  pub machine : MachineData
  pub there : new.machine ≡ Some machine
  pub fits : FitsGraph g machine
  pub same : machine.state ≡ old.state
  pub state : new.state ≡ old.state
  pub moves : machine.moves ≡ moves_of old.machine
  pub placed : machine.placed ≡ placed_of old.machine
  pub stays : StaysKnownIn large old.machine machine

-- the machine is the one from before, after an edit of the graph
pub record EditsFrom (g : GraphData) (change : Change) (old : Option MachineData) (machine : MachineData) : Type 0 where
  pub before : MachineData
  pub was : old ≡ Some before
  pub edits : Edits g change before machine

-- a node was placed in a machine
pub record PutsNode (g : GraphData) (node : ℕ) (value : Tern) (old new : MachineData) : Type 0 where
  pub places : Places node value old new
  pub covers : Covers g old → Covers g new
  pub fits : FitsGraph g old → FitsGraph g new
  pub unplaced : ((k : ℕ) → ¬ HasMember old.parts k node) → new.placed ≡ old.placed

-- a node was placed in the machine, if there is one
abbrev pub PutsIn : GraphData → ℕ → Tern → Option MachineData → Option MachineData → Type 0
PutsIn g node value None new = new ≡ None
PutsIn g node value (Some machine) new = (next : MachineData) × (new ≡ Some next) × PutsNode g node value machine next

-- some nodes were placed in a machine: it covers a graph that it covered, its texts are kept that were, those of the last build and the parts
-- are the same, it didn't move, and it marked no more than what these nodes concern
pub record PlacesSome (g : GraphData) (Concerned : List MachinePart → ℕ → Type 0) (old new : MachineData) : Type 0 where
  pub covers : Covers g old → Covers g new
  pub known : (kept : List GroupTextData) → IsKeptBy g kept old → IsKeptBy g kept new
  pub last : new.last ≡ old.last
  pub parts : new.parts ≡ old.parts
  pub moves : new.moves ≡ old.moves
  pub marks : (k : ℕ) → IsMarked new.marks k → IsMarked old.marks k ⊎ Concerned old.parts k

-- these nodes were placed in a machine: it covers a graph that it covered, its texts are kept that were, those of the last build are the
-- same, it didn't move, those parts alone are marked more that the nodes concern, and if all are input nodes no member was placed
pub record Assigns (g : GraphData) (given : List ℕ) (old new : MachineData) : Type 0 where
  pub some : PlacesSome g (ConcernsGiven given) old new
  pub open some use *
  pub unplaced : Covers g old → All (λ node. level_of g node ≡ INPUT_LEVEL) given → new.placed ≡ old.placed

-- these nodes were placed in the machine, if there is one
abbrev pub AssignsIn : GraphData → List ℕ → Option MachineData → Option MachineData → Type 0
AssignsIn g given None new = new ≡ None
AssignsIn g given (Some machine) new = (next : MachineData) × (new ≡ Some next) × Assigns g given machine next

-- the nodes whose states differ were placed in a machine: it covers a graph that it covered, its texts are kept that were, those of the last
-- build are the same, it didn't move, and those parts alone are marked more that such a node concerns
abbrev pub PutsOthers : GraphData → List Tern → List Tern → MachineData → MachineData → Type 0
PutsOthers g before after old new = PlacesSome g (ConcernsOther before after) old new

-- they were placed in the machine, if there is one
abbrev pub PutsOthersIn : GraphData → List Tern → List Tern → Option MachineData → Option MachineData → Type 0
PutsOthersIn g before after None new = new ≡ None
PutsOthersIn g before after (Some machine) new = (next : MachineData) × (new ≡ Some next) × PutsOthers g before after machine next

-- clocks' nodes were placed in a machine: it fits a graph that it fitted, its texts are kept that were, those of the last build are the
-- same, it didn't move, and where all are input nodes no member was placed
pub record Ticks (g : GraphData) (clocks : List ClockData) (old new : MachineData) : Type 0 where
  pub fits : FitsGraph g old → FitsGraph g new
  pub known : (kept : List GroupTextData) → IsKeptBy g kept old → IsKeptBy g kept new
  pub last : new.last ≡ old.last
  pub moves : new.moves ≡ old.moves
  pub unplaced : FitsGraph g old → All (λ clock. level_of g clock.node ≡ INPUT_LEVEL) clocks → new.placed ≡ old.placed

-- clocks' nodes were placed in the machine, if there is one
abbrev pub TicksIn : GraphData → List ClockData → Option MachineData → Option MachineData → Type 0
TicksIn g clocks None new = new ≡ None
TicksIn g clocks (Some machine) new = (next : MachineData) × (new ≡ Some next) × Ticks g clocks machine next

-- a machine took a unit step of the graph: it moved once if something changed, those parts alone are marked that read a node which
-- did or are stale, of the groups that are stepped by vicinities those nodes alone are touched at which a switch changed, and the texts of the
-- last build are the same
pub record TakesStep (g : GraphData) (old new : MachineData) : Type 0 where
  pub step : IsStep g old.state new.state
  pub fits : FitsGraph g new
  pub moved : new.state ≢ old.state → new.moves ≡ raised old.moves 1
  pub rested : new.state ≡ old.state → new.moves ≡ old.moves
  pub placed : new.placed ≡ old.placed
  pub last : new.last ≡ old.last
  pub marks : (k : ℕ) → IsMarked new.marks k → ReadsChange new.parts old.state new.state k ⊎ IsStale new.parts k
  pub touched : TouchesChanged new old.state new.state

-- a machine settled: it made each step that changed something, if it came to rest in time it is at rest, and the texts of the last build
-- are the same
pub record TakesPhase (g : GraphData) (limit : ℕ) (old new : MachineData) (steps : ℕ) (joined : Bool) : Type 0 where
  pub settles : Settles g old.state limit new.state steps joined
  pub fits : FitsGraph g new
  pub moves : new.moves ≡ raised old.moves steps
  pub placed : new.placed ≡ old.placed
  pub last : new.last ≡ old.last
  pub rests : joined ≡ false → steps < limit → IsAtRest new

-- there was a machine and there is one, whose states are these, and this leads from the one to the other
pub record MovesBy (Leads : MachineData → MachineData → Type 0) (old new : StageData) : Type 0 where
  pub before : MachineData
  pub after : MachineData
  pub was : old.machine ≡ Some before
  pub there : new.machine ≡ Some after
  pub from : before.state ≡ old.state
  pub to : after.state ≡ new.state
  pub leads : Leads before after

-- the machine, if there is one, neither moved nor had a member placed
pub record StaysPut (old new : Option MachineData) : Type 0 where
  pub moves : moves_of new ≡ moves_of old
  pub placed : placed_of new ≡ placed_of old

-- it settled with these counts in its columns, of which there is one
abbrev pub RestsWith : GraphData → ℕ → List Settled → StageData → StageData → Type 0
RestsWith g limit [] old new = ⊥
RestsWith g limit (count ∷ counts) old new = MovesBy (λ before after. TakesPhase g limit before after count.steps count.joined) old new

-- what an act does to a stage of one column: room is taken; a node is placed in the machine, if there is one; the machine is made stale round an
-- edit, or let go; it is built or finished; it takes a step; or it settles
abbrev pub DidAct : Act → StageData → StageData → Type 0
DidAct Reserved old new = (new.state ≡ old.state) × (new.machine ≡ old.machine)
DidAct (Placed g node letters) old new = PutsIn g node (letter_in 0 letters) old.machine new.machine
DidAct (Edited g change) old new = IfSome new.machine (EditsFrom g change old.machine)
DidAct (Built large g) old new = BuiltFrom large g old new
DidAct (Stepped g) old new = MovesBy (TakesStep g) old new
DidAct (Rested g limit counts) old new = RestsWith g limit counts old new
