-- Machines of columns that fit a graph: each column is a machine of its own that shares the parts and the marks.
use Rattle.std.specs.Prelude.{◌≡◌, ℕ, ◌<◌, None, Bool, List, length}
use Rattle.ternary.specs.declared.tern.Tern.{Tern}
use Rattle.switch_paths.specs.Graphs.{GraphData, nodes}
use Rattle.switch_paths.specs.Rails.{IsSound}
use Rattle.machine_parts.specs.declared.part.MachinePart.{MachinePart}
use Rattle.machine_laws.specs.Machines.{MachineData}
use Rattle.machine_laws.specs.Fitting.{FitsGraph}
use Rattle.truth_columns.specs.Columns.{HasColumn}
use Rattle.truth_parts.specs.Columns.{states_in}

-- a machine with these parts and marks and this state fits the graph, none of whose groups it steps by vicinities
pub record HasFit (g : GraphData) (parts : List MachinePart) (marks : List Bool) (state : List Tern) : Type 0 where
  pub machine : MachineData
  pub fits : FitsGraph g machine
  pub without : machine.wide ≡ None
  pub parts_are : machine.parts ≡ parts
  pub marks_are : machine.marks ≡ marks
  pub state_is : machine.state ≡ state

-- each column is a machine that fits the graph, and all have these parts and marks
abbrev pub FitsInAll : {A : Type 0} → GraphData → ℕ → (A → ℕ → Bool) → List MachinePart → List Bool → List A → List A → Type 0
FitsInAll g columns holds parts marks hi lo = (column : ℕ) → column < columns → HasFit g parts marks (states_in holds column hi lo)

-- in this column the truths are the rails of a sound state of the graph's nodes
pub record HasSound {A : Type 0} (g : GraphData) (holds : A → ℕ → Bool) (hi lo : List A) (column : ℕ) : Type 0 where
  pub state : List Tern
  pub has : HasColumn holds column hi lo state
  pub counted : length state ≡ nodes g
  pub sound : IsSound state
