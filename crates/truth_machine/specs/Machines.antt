-- A machine over truths as contracts see it, and what it keeps.
use Rattle.std.specs.Prelude.{ℕ, Bool, true, List, length, All, Vec}
use Rattle.std.proofs.Common.{Global}
use Rattle.ternary.specs.declared.tern.Tern.{Tern}
use Rattle.switch_paths.specs.Graphs.{GraphData}
use Rattle.machine_parts.specs.declared.part.MachinePart.{MachinePart}
use Rattle.part_lists.specs.Listing.{AreLists}
use Rattle.truth_parts.specs.Columns.{states_in, AreColumns}
use Rattle.truth_parts.specs.Evaluating.{Rooms}
use Rattle.truth_parts.specs.Stepping.{IsRunnable}
use Rattle.truth_parts.specs.Fitting.{FitsInAll}

-- the maker of truths, the parts, which of them are marked, and both rails of each node in truths
pub record TruthData (A M : Type 0) : Type 0 where
  pub maker : M
  pub parts : List MachinePart
  pub marks : List Bool
  pub hi : List A
  pub lo : List A

-- the machine can run, knows the owners of its nodes, and has a state in each column; all its truths are the maker's
pub record IsTruthMachine {A : Type 0} (count : ℕ) (has : A → Type 0) (holds : A → ℕ → Bool) (parts : List MachinePart) (marks : List Bool)
    (readers owners : List (Vec ℕ Global)) (hi lo : List A) (room : Rooms) : Type 0 where
  pub runs : IsRunnable parts marks (length hi) readers room
  pub owners_are : AreLists true parts (length hi) owners
  pub columns : AreColumns count holds hi lo
  pub highs : All has hi
  pub lows : All has lo

-- the states of a column of the machine
abbrev pub column_of : {A M : Type 0} → (M → A → ℕ → Bool) → TruthData A M → ℕ → List Tern
column_of holds m column = states_in (holds m.maker) column m.hi m.lo

-- each column is a machine that fits the graph, and all share the parts and the marks
abbrev pub FitsInMachine : {A M : Type 0} → (M → ℕ) → (M → A → ℕ → Bool) → GraphData → TruthData A M → Type 0
FitsInMachine columns holds g m = FitsInAll g (columns m.maker) (holds m.maker) m.parts m.marks m.hi m.lo
