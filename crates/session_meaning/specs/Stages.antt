-- What a command does to the stage of a session, act by act; and what calls inside the session do to both.
use Rattle.std.specs.Prelude.{◌≡◌, ◌≢◌, ℕ, ◌≤◌, ◌⊎◌, Bool, List, [], ◌∷◌, ◌++◌, length, map, All, Option, None, Some, Result, Ok, Err}
use Rattle.ternary.specs.declared.tern.Tern.{Tern}
use Rattle.switch_paths.specs.Graphs.{GraphData, nodes, level_of, place_at}
use Rattle.switch_paths.specs.Step.{IsStep}
use Rattle.switch_paths.specs.Switching.{state_at}
use Rattle.settling.specs.declared.settling.Settled.{Settled}
use Rattle.settling.specs.Settling.{Settles}
use Rattle.group_text.specs.Texts.{GroupTextData}
use Rattle.circuit_texts.specs.declared.texts.BuildFault.{BuildFault}
use Rattle.circuit_texts.specs.declared.texts.BuildFault.TheVariants as build
use Rattle.circuit_texts.specs.Sizes.{TellsRefused}
use Rattle.channel_groups.specs.declared.change.Change.{Change}
use Rattle.column_stage.specs.Acts.{Act, Reserved, Placed, Edited, Built, Stepped, Rested, Leads, LeadsBy}
use Rattle.netlist.specs.Circuits.{CircuitData}
use Rattle.script_lang.specs.declared.command.Command.{Command}
use Rattle.script_lang.specs.declared.command.Command.TheVariants as family
use Rattle.script_lang.specs.declared.command.Give.{Give}
use Rattle.script_lang.specs.declared.command.Give.TheVariants.{Set, Charge, Back}
use Rattle.script_lang.specs.declared.command.Run.{Run}
use Rattle.script_lang.specs.declared.command.Run.TheVariants.{Step, Phase, Cycle, Report}
use Rattle.session_meaning.specs.Refusals.{nodes_named}
use Rattle.session_meaning.specs.declared.fault.ApplyFault.{ApplyFault}
use Rattle.session_meaning.specs.declared.fault.ApplyFault.TheVariants.{Refused, GroupNodes, GroupSwitches, WriteFault, NoMemory}
use Rattle.session_meaning.specs.Sessions.{SessionData, HeldSession, ClockData, places_of}
use Rattle.told_lines.specs.Lines.{Line, Told, Wave}
use Rattle.session_meaning.specs.Effects.{RunEffect, moved_to, places_in, states_by}
use Rattle.session_meaning.specs.Outcomes.{Accepts, Refuses, RefusesSize, Stays, Begins, Outcome}
use Rattle.session_meaning.specs.Preparing.{IsBuild}

-- each of these names has so many nodes at most
abbrev pub AreShortLists : CircuitData → List (List ℕ × List ℕ) → ℕ → List (List ℕ) → Type 0
AreShortLists c vectors most names = All (λ name. length (nodes_named c vectors name) ≤ most) names

-- ---- edits

-- how a graph was before another switch, or none, came to stand at a place
abbrev pub before_place : GraphData → ℕ → Change
before_place g place = record { nodes = nodes g; place = Some (place, place_at g.places place); level = None }

-- how a graph was before a node got another level
abbrev pub before_level : GraphData → ℕ → Change
before_level g node = record { nodes = nodes g; place = None; level = Some (node, level_of g node) }

-- the act is one of an edit: room is taken for new nodes, or the graph is edited
abbrev pub IsEditing : Act → Type 0
IsEditing Reserved = Unit {0}
IsEditing (Edited g change) = Unit {0}
IsEditing (Placed g node letters) = ⊥
IsEditing (Built large g) = ⊥
IsEditing (Stepped g) = ⊥
IsEditing (Rested g limit counts) = ⊥

-- ---- states that are given

-- the acts that give these nodes their states, from left to right
abbrev pub acts_of_states : GraphData → List (ℕ × Tern) → List Act
acts_of_states g pairs = map (λ pair. Placed g pair.0 (pair.1 ∷ [])) pairs

-- the acts that give each clock's node its state at a place, from left to right
abbrev pub acts_of_clocks : GraphData → List ClockData → ℕ → List Act
acts_of_clocks g clocks place = map (λ clock. Placed g clock.node (state_at clock.states place ∷ [])) clocks

-- the act gives a node a state whose states differ
pub record PlacesOther (g : GraphData) (before after : List Tern) (act : Act) : Type 0 where
  pub node : ℕ
  pub letters : List Tern
  pub differs : state_at before node ≢ state_at after node
  pub is : act ≡ Placed g node letters

-- a node with this state was given that one: it is the same, or the node was placed
abbrev pub GivesOther : {M : Type 0} → (Act → M → M → Type 0) → GraphData → ℕ → Tern → Tern → M → M → Type 0
GivesOther did g node value before old new = ((value ≡ before) × (new ≡ old)) ⊎ ((value ≢ before) × did (Placed g node (value ∷ [])) old new)

-- nodes were given states: just those of the command, or, if they come back, those alone whose states differ
abbrev pub GivesOn : {M : Type 0} → (Act → M → M → Type 0) → HeldSession M → Give → HeldSession M → Type 0
GivesOn did old (Set list) new =
    Leads did old.stage (acts_of_states old.core.circuit.graph (states_by old.core.circuit old.core.vectors list)) new.stage
GivesOn did old (Charge list) new =
    Leads did old.stage (acts_of_states old.core.circuit.graph (states_by old.core.circuit old.core.vectors list)) new.stage
GivesOn did old (Back name) new = LeadsBy did (PlacesOther old.core.circuit.graph old.core.state new.core.state) old.stage new.stage

-- ---- phases

-- the act of a phase, in one column, whose waveform line tells its count
pub record RestsBy (g : GraphData) (limit : ℕ) (lines : List Line) (act : Act) : Type 0 where
  pub n : ℕ
  pub count : Settled
  pub values : List Tern
  pub line : lines ≡ Wave n count.steps count.joined values ∷ []
  pub is : act ≡ Rested g limit (count ∷ [])

-- the acts of phases with these lines, at these places of the clocks: at each place the clocks' nodes are given their states, and the stage settles
abbrev pub AreBeatActs : GraphData → ℕ → List ClockData → List ℕ → List Line → List Act → Type 0
AreBeatActs g limit clocks [] lines acts = (lines ≡ []) × (acts ≡ [])
AreBeatActs g limit clocks (place ∷ places) lines acts =
    (front : List Line) × (back : List Line) × (act : Act) × (more : List Act) × RestsBy g limit front act ×
    AreBeatActs g limit clocks places back more × (lines ≡ front ++ back) × (acts ≡ acts_of_clocks g clocks place ++ act ∷ more)

-- the acts behind the build of a command that settles, with its lines
abbrev pub AreRunActs : SessionData → Run → List Line → List Act → Type 0
AreRunActs mid Phase lines acts = (act : Act) × RestsBy mid.circuit.graph mid.limit lines act × (acts ≡ act ∷ [])
AreRunActs mid (Cycle times) lines acts =
    AreBeatActs mid.circuit.graph mid.limit mid.clocks (places_in (places_of mid.clocks) times) lines acts
AreRunActs mid other lines acts = ⊥

-- the circuit was built, and the phases of the command were done, from the data after the build
pub record SettlesOn {M : Type 0} (did : Act → M → M → Type 0) (old : HeldSession M) (run : Run) (new : HeldSession M) : Type 0 where
  pub mid : SessionData
  pub same : mid ≡ record old.core { kept = mid.kept; fresh = mid.fresh }
  pub lines : List Line
  pub effect : RunEffect mid run new.core lines
  pub acts : List Act
  pub are : AreRunActs mid run lines acts
  pub leads : Leads did old.stage (Built old.core.large old.core.circuit.graph ∷ acts) new.stage

-- the circuit was built, and more was done, as the command says
abbrev pub RunsOn : {M : Type 0} → (Act → M → M → Type 0) → HeldSession M → Run → HeldSession M → Type 0
RunsOn did old Step new = Leads did old.stage (Built old.core.large old.core.circuit.graph ∷ Stepped old.core.circuit.graph ∷ []) new.stage
RunsOn did old Phase new = SettlesOn did old Phase new
RunsOn did old (Cycle times) new = SettlesOn did old (Cycle times) new
RunsOn did old Report new = Leads did old.stage (Built old.core.large old.core.circuit.graph ∷ []) new.stage

-- ---- commands

-- what an accepted command does to the stage, by what one act does
abbrev pub IsStageAfter : {M : Type 0} → (Act → M → M → Type 0) → HeldSession M → Command → HeldSession M → Type 0
IsStageAfter did old (family.Edit edit) new = LeadsBy did IsEditing old.stage new.stage
IsStageAfter did old (family.Give give) new = GivesOn did old give new
IsStageAfter did old (family.Setup setup) new = new.stage ≡ old.stage
IsStageAfter did old (family.Run run) new = RunsOn did old run new
IsStageAfter did old (family.Tell tell) new = new.stage ≡ old.stage

-- the stage is as before, but that room for new nodes may have been taken
abbrev pub IsStill : {M : Type 0} → (Act → M → M → Type 0) → M → M → Type 0
IsStill did old new = (new ≡ old) ⊎ did Reserved old new

-- what a command comes to, and what becomes of the stage: where the command is refused, and where it wants memory itself, the stage is as before
abbrev pub ObeysOn : {H M : Type 0} → (H → Told → H) → (H → Told → H → Type 0) → (Act → M → M → Type 0) → HeldSession M → Command → HeldSession M →
    H → H → List GroupTextData → List GroupTextData → ℕ → ℕ → Result (Unit {0}) ApplyFault → Type 0
ObeysOn hear part did old command new before after asked told refusals now result =
    Outcome (Accepts hear old.core command new.core before after asked told × IsStageAfter did old command new)
    (λ refusal. Refuses old.core command new.core before after asked told refusal × IsStill did old.stage new.stage)
    (λ fault. RefusesSize old.core command new.core before after asked told fault × IsStill did old.stage new.stage)
    (Stays old.core new.core before after asked told × IsStill did old.stage new.stage)
    (Begins hear part old.core command new.core before after asked told) refusals now result

-- ---- builds

-- the circuit was built: what was not kept was analysed
pub record Readied {M : Type 0} (did : Act → M → M → Type 0) (old new : HeldSession M) (asked told : List GroupTextData) : Type 0 where
  pub texts : List GroupTextData
  pub build : IsBuild old.core new.core texts
  pub analysed : told ≡ asked ++ texts
  pub built : did (Built old.core.large old.core.circuit.graph) old.stage new.stage

-- the circuit can't be built: the first group that is too large is told, and all is as before
pub record TooLarge {M : Type 0} (old new : HeldSession M) (asked told : List GroupTextData) (fault : BuildFault) : Type 0 where
  pub first : TellsRefused old.core.large old.core.circuit.graph fault
  pub same : new ≡ old
  pub unasked : told ≡ asked

-- a build ran out of memory: all is as before, but for the texts that it may have analysed, and that are kept, as the stage says
pub record CutOffBy {M : Type 0} (cuts : ℕ → GraphData → Option ℕ → List GroupTextData → List GroupTextData → List GroupTextData → List GroupTextData → Type 0)
    (old new : HeldSession M) (asked told : List GroupTextData) : Type 0 where
  pub core : new.core ≡ record old.core { kept = new.core.kept }
  pub stage : new.stage ≡ old.stage
  pub cut_off : cuts old.core.large old.core.circuit.graph old.core.bound old.core.kept new.core.kept asked told

-- what making a session ready for unit steps comes to
abbrev pub ReadiesBy : {M : Type 0} → (ℕ → GraphData → Option ℕ → List GroupTextData → List GroupTextData → List GroupTextData → List GroupTextData → Type 0) →
    (Act → M → M → Type 0) → HeldSession M → HeldSession M → List GroupTextData → List GroupTextData → Result (Unit {0}) ApplyFault → Type 0
ReadiesBy cuts did old new asked told (Ok _) = Readied did old new asked told
ReadiesBy cuts did old new asked told (Err (Refused refusal)) = ⊥
ReadiesBy cuts did old new asked told (Err (GroupNodes node count)) = TooLarge old new asked told (build.GroupNodes node count)
ReadiesBy cuts did old new asked told (Err (GroupSwitches node count)) = TooLarge old new asked told (build.GroupSwitches node count)
ReadiesBy cuts did old new asked told (Err WriteFault) = ⊥
ReadiesBy cuts did old new asked told (Err NoMemory) = CutOffBy cuts old new asked told

-- ---- steps and phases

-- what steps leave alone: the circuit, the clocks, the limit and the watch list
pub record SameSetup (old new : SessionData) : Type 0 where
  pub circuit : new.circuit ≡ old.circuit
  pub clocks : new.clocks ≡ old.clocks
  pub limit : new.limit ≡ old.limit
  pub watched : new.watched ≡ old.watched

-- a unit step was done
pub record IsUnitStepDone (old new : SessionData) : Type 0 where
  pub next : List Tern
  pub step : IsStep old.circuit.graph old.state next
  pub moved : new ≡ moved_to old next

-- the state settled
pub record IsSettled (old new : SessionData) (steps : ℕ) (joined : Bool) : Type 0 where
  pub next : List Tern
  pub settles : Settles old.circuit.graph old.state old.limit next steps joined
  pub moved : new ≡ moved_to old next
