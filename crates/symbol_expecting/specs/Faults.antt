-- What ends an `expect` before all of it was told, and what the hearer counts then.
use Rattle.std.specs.Prelude.{◌≡◌, ℕ, ◌≤◌, Bool, length, Option, Some, Result, Ok, Err}
use Rattle.ports.specs.Ports.{faults_at, RefusedOnce}
use Rattle.decision_graph.specs.declared.graph.GraphFault.{GraphFault}
use Rattle.decision_graph.specs.declared.graph.GraphFault.TheVariants as graph
use Rattle.session_meaning.specs.declared.fault.Refusal.{Refusal}
use Rattle.symbol_stage.specs.Stages.{StageData, bound_in}
use Rattle.symbol_expecting.specs.declared.fault.ExpectFault.{ExpectFault}
use Rattle.symbol_expecting.specs.declared.fault.ExpectFault.TheVariants.{Refused, Full, NoMemory, Unheard}

-- what ends it if a function can't be made
abbrev pub of_graph : GraphFault → ExpectFault
of_graph graph.Full = Full
of_graph graph.NoMemory = NoMemory

-- the fault is the refusal that there is, or lack of memory
abbrev pub IsRefusalFor : Option Refusal → ExpectFault → Type 0
IsRefusalFor found (Refused refusal) = found ≡ Some refusal
IsRefusalFor found Full = ⊥
IsRefusalFor found NoMemory = Unit {0}
IsRefusalFor found (Unheard fault) = ⊥

-- the fault is no refusal; and of vertices it tells only if there are as many as there may be
abbrev pub IsSpentBy : StageData → ExpectFault → Type 0
IsSpentBy stage (Refused refusal) = ⊥
IsSpentBy stage Full = bound_in stage ≤ length stage.machine.maker.graph.vertices
IsSpentBy stage NoMemory = Unit {0}
IsSpentBy stage (Unheard fault) = Unit {0}

-- the fault isn't the hearer's, nor a refusal; or it is the hearer's
abbrev pub IsSilent : ExpectFault → Type 0
IsSilent (Refused refusal) = ⊥
IsSilent Full = Unit {0}
IsSilent NoMemory = Unit {0}
IsSilent (Unheard fault) = ⊥

abbrev pub IsUnheard : ExpectFault → Type 0
IsUnheard (Refused refusal) = ⊥
IsUnheard Full = ⊥
IsUnheard NoMemory = ⊥
IsUnheard (Unheard fault) = Unit {0}

-- the count of the hearer's faults after an `expect`
abbrev pub faults_expected : ℕ → Result Bool ExpectFault → ℕ
faults_expected faults (Ok _) = faults
faults_expected faults (Err (Refused refusal)) = faults
faults_expected faults (Err Full) = faults
faults_expected faults (Err NoMemory) = faults
faults_expected faults (Err (Unheard fault)) = faults_at faults fault

-- and that of its refused memory
abbrev pub RefusedExpected : ℕ → ℕ → Result Bool ExpectFault → Type 0
RefusedExpected before now (Ok _) = now ≡ before
RefusedExpected before now (Err (Refused refusal)) = now ≡ before
RefusedExpected before now (Err Full) = now ≡ before
RefusedExpected before now (Err NoMemory) = now ≡ before
RefusedExpected before now (Err (Unheard fault)) = RefusedOnce {T = Unit {0}} before now (Err fault)
