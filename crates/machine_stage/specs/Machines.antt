-- A stage of one column that is a machine's: what it is at any moment, and what a command does to its machine.
-- After Bryant, Beatty, Brace, Cho and Sheffler, "COSMOS: A Compiled Simulator for MOS Circuits", 1987.
use Rattle.std.specs.Prelude.{◌≡◌, ◌≢◌, ℕ, ◌<◌, ◌⊎◌, true, false, List, [], ◌∷◌, ◌++◌, map, sum_by, Contains, Option, None, Some, IfSome, is_some}
use Rattle.ternary.specs.declared.tern.Tern.{Tern}
use Rattle.ternary.specs.Counts.{raised}
use Rattle.switch_paths.specs.Graphs.{GraphData}
use Rattle.switch_paths.specs.Switching.{state_at}
use Rattle.group_text.specs.Texts.{GroupTextData}
use Rattle.group_analysis.specs.Using.{used_texts}
use Rattle.machine_parts.specs.declared.part.MachinePart.{MachinePart}
use Rattle.machine_laws.specs.Machines.{MachineData, TouchesChanged, IsAtRest}
use Rattle.machine_parts.specs.Parts.{IsStale}
use Rattle.machine_parts.specs.Marking.{IsMarked}
use Rattle.machine_parts.specs.Stepping.{Concerns, ReadsChange}
use Rattle.machine_laws.specs.Fitting.{Covers, FitsGraph, IsKeptBy}
use Rattle.machine_laws.specs.Editing.{StaysKnown}
use Rattle.script_lang.specs.declared.value.Value.{Value}
use Rattle.script_lang.specs.declared.command.Command.{Command}
use Rattle.script_lang.specs.declared.command.Command.TheVariants as family
use Rattle.script_lang.specs.declared.command.Give.{Give}
use Rattle.script_lang.specs.declared.command.Give.TheVariants.{Set, Charge, Back}
use Rattle.script_lang.specs.declared.command.Run.{Run}
use Rattle.script_lang.specs.declared.command.Run.TheVariants.{Step, Phase, Cycle, Report}
use Rattle.session_meaning.specs.Sessions.{SessionData, HeldSession, IsHeldSession}
use Rattle.told_lines.specs.Lines.{Line, Wave}
use Rattle.told_lines.specs.Sums.{steps_of}
use Rattle.session_meaning.specs.Effects.{RunEffect, states_by}
use Rattle.session_meaning.specs.Preparing.{edits}

-- the state, the machine, if there is one, and for how many nodes more there is room
pub record StageData : Type 0 where
  pub state : List Tern
  pub machine : Option MachineData
  pub spare : ℕ

-- a machine as contracts of a stage see it: how much room it has for new nodes isn't told
abbrev pub without_room : MachineData → MachineData
without_room machine = record machine { spare = 0 }

-- the texts that the groups had at the last build, in order; if there is no machine, none
abbrev pub last_in : Option MachineData → List GroupTextData
last_in None = []
last_in (Some machine) = machine.last

-- what is kept, as a table has it, with the texts of the last build in front
abbrev pub kept_in : Option MachineData → List GroupTextData → List GroupTextData
kept_in machine kept = used_texts (last_in machine) kept

-- the machine serves these: it covers the graph, its state is this, and each text whose code a part has is kept
pub record Serves (g : GraphData) (states : List Tern) (kept : List GroupTextData) (machine : MachineData) : Type 0 where
  pub covers : Covers g machine
  pub same : machine.state ≡ states
  pub known : IsKeptBy g kept machine

-- the machine is that of the data: it serves their circuit, their state and what they keep
abbrev pub IsMachineOf : SessionData → MachineData → Type 0
IsMachineOf session machine = Serves session.circuit.graph session.state session.kept machine

-- one column
abbrev pub columns_on : StageData → ℕ
columns_on stage = 1

-- it has the stage's states
abbrev pub states_in : StageData → ℕ → List Tern
states_in stage column = stage.state

-- what machine there is serves the graph
abbrev pub ServesIn : StageData → GraphData → List GroupTextData → Type 0
ServesIn stage g kept = IfSome stage.machine (Serves g stage.state kept)

-- the data are those of a session, and what machine there is is theirs
abbrev pub IsHeldMachine : HeldSession StageData → Type 0
IsHeldMachine session = IsHeldSession columns_on states_in ServesIn session

-- there is a machine, and it fits the graph
pub record FitsIn (g : GraphData) (found : Option MachineData) : Type 0 where
  pub machine : MachineData
  pub there : found ≡ Some machine
  pub fits : FitsGraph g machine

-- the session has a machine, which fits its circuit
abbrev pub IsBuilt : HeldSession StageData → Type 0
IsBuilt session = FitsIn session.core.circuit.graph session.stage.machine

-- how often the machine moved; if there is none, never
abbrev pub moves_of : Option MachineData → ℕ
moves_of None = 0
moves_of (Some machine) = machine.moves

-- how often one of its members was placed; if there is none, never
abbrev pub placed_of : Option MachineData → ℕ
placed_of None = 0
placed_of (Some machine) = machine.placed

-- how many steps changed something, by the waveform lines
abbrev pub steps_in : List Line → ℕ
steps_in lines = sum_by steps_of lines

-- the last line has no mark, and fewer steps than the limit
pub record EndsAtRest (limit : ℕ) (lines : List Line) : Type 0 where
  pub front : List Line
  pub n : ℕ
  pub k : ℕ
  pub values : List Tern
  pub last : lines ≡ front ++ Wave n k false values ∷ []
  pub few : k < limit

-- a step was done by the machine, which fits the circuit: it moved once if something changed, those parts alone are marked that read a
-- node which did or are stale, since their groups are stepped by vicinities, and of these's nodes those alone are touched at which a switch
-- changed
pub record StepsMachine (old new : HeldSession StageData) : Type 0 where
  pub machine : MachineData
  pub there : new.stage.machine ≡ Some machine
  pub fits : FitsGraph new.core.circuit.graph machine
  pub moved : new.core.state ≢ old.core.state → machine.moves ≡ raised (moves_of old.stage.machine) 1
  pub rested : new.core.state ≡ old.core.state → machine.moves ≡ moves_of old.stage.machine
  pub placed : machine.placed ≡ placed_of old.stage.machine
  pub marks : (k : ℕ) → IsMarked machine.marks k → ReadsChange machine.parts old.core.state new.core.state k ⊎ IsStale machine.parts k
  pub touched : TouchesChanged machine old.core.state new.core.state

-- phases with these lines were done by a machine: it made each step of them that changed something, no member was placed, and if the
-- last of them came to rest it is at rest
pub record MovesMachine (limit : ℕ) (old new : Option MachineData) (lines : List Line) : Type 0 where
  pub machine : MachineData
  pub there : new ≡ Some machine
  pub moves : machine.moves ≡ raised (moves_of old) (steps_in lines)
  pub placed : machine.placed ≡ placed_of old
  pub rests : EndsAtRest limit lines → IsAtRest machine

-- the phases of a command were done by the machine, which fits the circuit, from the data after its build
pub record SettlesMachine (old : HeldSession StageData) (run : Run) (new : HeldSession StageData) : Type 0 where
  pub mid : SessionData
  pub same : mid ≡ record old.core { kept = mid.kept; fresh = mid.fresh }
  pub lines : List Line
  pub effect : RunEffect mid run new.core lines
  pub built : IsBuilt new
  pub moves : MovesMachine old.core.limit old.stage.machine new.stage.machine lines

-- the part with this number has one of these nodes as a member or reads one
pub record ConcernsGiven (given : List ℕ) (parts : List MachinePart) (k : ℕ) : Type 0 where
  pub node : ℕ
  pub among : Contains given node
  pub concerns : Concerns parts k node

-- these nodes were placed in the machine: it didn't move, and those parts alone are marked more that the nodes concern
pub record PlacesGiven (given : List ℕ) (old : MachineData) (new : Option MachineData) : Type 0 where
  pub machine : MachineData
  pub there : new ≡ Some machine
  pub parts : machine.parts ≡ old.parts
  pub moves : machine.moves ≡ old.moves
  pub marks : (k : ℕ) → IsMarked machine.marks k → IsMarked old.marks k ⊎ ConcernsGiven given old.parts k

-- these nodes were placed in the machine, if there is one
abbrev pub PlacesIn : List ℕ → Option MachineData → Option MachineData → Type 0
PlacesIn given None new = new ≡ None
PlacesIn given (Some machine) new = PlacesGiven given machine new

-- the nodes that assignments give states
abbrev pub nodes_given : SessionData → List (List ℕ × Value) → List ℕ
nodes_given session list = map (λ pair. pair.0) (states_by session.circuit session.vectors list)

-- the part with this number has a node as a member or reads one whose states differ
pub record ConcernsOther (before after : List Tern) (parts : List MachinePart) (k : ℕ) : Type 0 where
  pub node : ℕ
  pub differs : state_at before node ≢ state_at after node
  pub concerns : Concerns parts k node

-- the nodes whose states differ were placed in the machine: it didn't move, and those parts alone are marked more that such a node concerns
pub record PlacesOthers (before after : List Tern) (old : MachineData) (new : Option MachineData) : Type 0 where
  pub machine : MachineData
  pub there : new ≡ Some machine
  pub parts : machine.parts ≡ old.parts
  pub moves : machine.moves ≡ old.moves
  pub marks : (k : ℕ) → IsMarked machine.marks k → IsMarked old.marks k ⊎ ConcernsOther before after old.parts k

-- they were placed in the machine, if there is one
abbrev pub PlacesOthersIn : List Tern → List Tern → Option MachineData → Option MachineData → Type 0
PlacesOthersIn before after None new = new ≡ None
PlacesOthersIn before after (Some machine) new = PlacesOthers before after machine new

-- if a machine was there and each part that is stale now is one of the groups that it stepped by vicinities, these are known as before, but that
-- none of them has more members than so many either
abbrev pub StaysKnownIn : ℕ → Option MachineData → MachineData → Type 0
StaysKnownIn large old machine = IfSome old (λ before. StaysKnown large before machine)

-- there is a machine, which fits the circuit, and neither moved nor had a member placed; the groups that it steps by vicinities are known
-- still, if no others came to be stepped so
pub record BuildsMachine (old new : HeldSession StageData) : Type 0 where
  pub machine : MachineData
  pub there : new.stage.machine ≡ Some machine
  pub fits : FitsGraph new.core.circuit.graph machine
  pub moves : machine.moves ≡ moves_of old.stage.machine
  pub placed : machine.placed ≡ placed_of old.stage.machine
  pub stays : StaysKnownIn old.core.large old.stage.machine machine

-- the machine was there before, and neither moved since nor had a member placed
pub record Survives (old : Option MachineData) (machine : MachineData) : Type 0 where
  pub before : MachineData
  pub was : old ≡ Some before
  pub moves : machine.moves ≡ before.moves
  pub placed : machine.placed ≡ before.placed

-- the circuit was edited: if there is a machine, it was there before
abbrev pub EditsMachine : HeldSession StageData → HeldSession StageData → Type 0
EditsMachine old new = IfSome new.stage.machine (Survives old.stage.machine)

-- nodes were given states
abbrev pub GivesMachine : HeldSession StageData → Give → HeldSession StageData → Type 0
GivesMachine old (Set list) new =
    PlacesIn (nodes_given old.core list) old.stage.machine new.stage.machine × (placed_of new.stage.machine ≡ placed_of old.stage.machine)
GivesMachine old (Charge list) new = PlacesIn (nodes_given old.core list) old.stage.machine new.stage.machine
GivesMachine old (Back name) new = PlacesOthersIn old.core.state new.core.state old.stage.machine new.stage.machine

-- the circuit was built, and more was done, as the command says
abbrev pub RunsMachine : HeldSession StageData → Run → HeldSession StageData → Type 0
RunsMachine old Step new = StepsMachine old new
RunsMachine old Phase new = SettlesMachine old Phase new
RunsMachine old (Cycle times) new = SettlesMachine old (Cycle times) new
RunsMachine old Report new = BuildsMachine old new

-- what an accepted command does to the machine
abbrev pub IsMachineAfter : HeldSession StageData → Command → HeldSession StageData → Type 0
IsMachineAfter old (family.Edit edit) new = EditsMachine old new
IsMachineAfter old (family.Give give) new = GivesMachine old give new
IsMachineAfter old (family.Setup setup) new = new.stage.machine ≡ old.stage.machine
IsMachineAfter old (family.Run run) new = RunsMachine old run new
IsMachineAfter old (family.Tell tell) new = new.stage.machine ≡ old.stage.machine

-- where an accepted command found a machine and leaves none, it edited the circuit
abbrev pub OnlyEditsLoseMachines : Type 0
OnlyEditsLoseMachines =
    (old new : HeldSession StageData) (command : Command) → IsMachineAfter old command new → is_some old.stage.machine ≡ true → new.stage.machine ≡ None →
    edits command ≡ true
