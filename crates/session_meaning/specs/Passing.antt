-- What an onlooker sees of a command while it is obeyed: its steps and phases, and the states that each passes through.
-- In the manner of MOSSIM II: Bryant, "A Switch-Level Model and Simulator for MOS Digital Systems", 1984.
use Rattle.std.specs.Prelude.{◌≡◌, ℕ, ◌⊎◌, List, [], ◌∷◌, length, map, Result, IfErr}
use Rattle.ternary.specs.declared.tern.Tern.{Tern}
use Rattle.ternary.specs.Counts.{raised}
use Rattle.switch_paths.specs.Graphs.{GraphData}
use Rattle.settling.specs.Moved.{IsGrown, ListsChanges}
use Rattle.settling.specs.Passing.{SteppingThrough}
use Rattle.settling.specs.Passes.{Pass, state_behind, see_pass, see_passes, last_behind}
pub use Rattle.column_stage.specs.Seeing.{PhaseThrough, SeesStates}
use Rattle.script_lang.specs.declared.command.Command.{Command}
use Rattle.script_lang.specs.declared.command.Command.TheVariants as family
use Rattle.script_lang.specs.declared.command.Run.{Run}
use Rattle.script_lang.specs.declared.command.Run.TheVariants.{Step, Phase, Cycle, Report}
use Rattle.session_meaning.specs.declared.fault.ApplyFault.{ApplyFault}
use Rattle.session_meaning.specs.Sessions.{SessionData, ClockData, places_of}
use Rattle.session_meaning.specs.Effects.{state_given, states_with, places_in}

-- a unit step: through the new state if it changes, and one unit step is told of it in either case
pub record IsStepPass (g : GraphData) (old : List Tern) (pass : Pass) : Type 0 where
  pub before : pass.before ≡ old
  pub through : SteppingThrough g 1 old pass.states
  pub steps : pass.steps ≡ 1

-- a phase: through the states behind its unit steps, whose number is told
pub record IsPhasePass (g : GraphData) (limit : ℕ) (old : List Tern) (pass : Pass) : Type 0 where
  pub before : pass.before ≡ old
  pub through : PhaseThrough g limit old pass.steps pass.states

-- for each of these places of the clocks in order a phase from the state with their nodes set
abbrev pub BeatsThrough : GraphData → List ClockData → ℕ → List ℕ → List Tern → List Pass → Type 0
BeatsThrough g clocks limit [] old passes = passes ≡ []
BeatsThrough g clocks limit (place ∷ places) old passes =
    (pass : Pass) × (more : List Pass) × IsPhasePass g limit (states_with clocks place old) pass ×
    BeatsThrough g clocks limit places (state_behind pass) more × (passes ≡ pass ∷ more)

-- the steps and phases of a command that has the circuit built: of `step` and `phase` one, of `cycle` one for each place of the clocks, and of
-- `report` none
abbrev pub RunThrough : SessionData → Run → List Pass → Type 0
RunThrough old Step passes = (pass : Pass) × IsStepPass old.circuit.graph old.state pass × (passes ≡ pass ∷ [])
RunThrough old Phase passes = (pass : Pass) × IsPhasePass old.circuit.graph old.limit old.state pass × (passes ≡ pass ∷ [])
RunThrough old (Cycle times) passes =
    BeatsThrough old.circuit.graph old.clocks old.limit (places_in (places_of old.clocks) times) old.state passes
RunThrough old Report passes = passes ≡ []

-- and those of any command: if no unit step is taken there are none
abbrev pub PassesThrough : SessionData → Command → List Pass → Type 0
PassesThrough old (family.Run run) passes = RunThrough old run passes
PassesThrough old command passes = passes ≡ []

-- an onlooker saw steps and phases of this sort, one after the other
pub record Sees {S : Type 0} (begin see : S → List Tern → S) (rest : S → ℕ → S) (Through : List Pass → Type 0) (before after : S) : Type 0 where
  pub passes : List Pass
  pub through : Through passes
  pub seen : after ≡ see_passes begin see rest before passes

-- and they lead from one state to another
pub record SeesTo {S : Type 0} (begin see : S → List Tern → S) (rest : S → ℕ → S) (Through : List Pass → Type 0) (old new : List Tern)
    (before after : S) : Type 0 where
  pub passes : List Pass
  pub through : Through passes
  pub last : new ≡ last_behind old passes
  pub seen : after ≡ see_passes begin see rest before passes

-- an onlooker saw one step or phase of this sort, which leads to a state
pub record SeesPass {S : Type 0} (begin see : S → List Tern → S) (rest : S → ℕ → S) (Through : Pass → Type 0) (new : List Tern)
    (before after : S) : Type 0 where
  pub pass : Pass
  pub through : Through pass
  pub last : new ≡ state_behind pass
  pub seen : after ≡ see_pass begin see rest before pass

-- an onlooker saw the phases at these places of a session's clocks, from one state to another
abbrev pub SeesBeats : {S : Type 0} → (S → List Tern → S) → (S → List Tern → S) → (S → ℕ → S) → List ℕ → SessionData → SessionData → S → S → Type 0
SeesBeats begin see rest places old new before after =
    SeesTo begin see rest (BeatsThrough old.circuit.graph old.clocks old.limit places old.state) old.state new.state before after

-- the state that an onlooker knows behind a command: the one that its unit steps left, and the one before it if it takes none
abbrev pub known_behind : SessionData → Command → SessionData → List Tern
known_behind old (family.Run run) new = new.state
known_behind old command new = old.state

-- and how the state behind the command comes of that one: nodes are new, or are given states, or it is the same
abbrev pub MovesBehind : SessionData → Command → SessionData → Type 0
MovesBehind old (family.Edit edit) new = IsGrown old.state new.state
MovesBehind old (family.Give give) new = (new ≡ record old { state = state_given old give }) × (length new.state ≡ length old.state)
MovesBehind old command new = new.state ≡ known_behind old command new

-- so much an onlooker knows behind a command
pub record KnowsBehind {O : Type 0} (knows : O → List Tern → Type 0) (onlooker : O) (old : SessionData) (command : Command) (new : SessionData) : Type 0 where
  pub known : knows onlooker (known_behind old command new)
  pub moves : MovesBehind old command new

-- an onlooker knows a state that differs from this one at the clocks' nodes alone
abbrev pub KnowsButClocks : {O : Type 0} → (O → List Tern → Type 0) → O → List ClockData → List Tern → Type 0
KnowsButClocks knows onlooker clocks state = (old : List Tern) × knows onlooker old × ListsChanges (map (λ clock. clock.node) clocks) old state

-- a call that ended with a fault left the onlooker as it was, unless the hearer caused the fault: then the hearer counts it
abbrev pub IsUnseen : {O T : Type 0} → O → O → ℕ → ℕ → ℕ → ℕ → Result T ApplyFault → Type 0
IsUnseen old new faults faults_now refusals refusals_now result =
    IfErr result (λ _. (new ≡ old) ⊎ ((faults_now ≡ raised faults 1) ⊎ (refusals_now ≡ raised refusals 1)))
