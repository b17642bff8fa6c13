-- The stepper by plain steps, as contracts see it.
use Rattle.std.specs.Prelude.{◌≡◌, ℕ, zero, suc, ◌+◌, ◌≤◌, List, [], ◌∷◌, length}
use Rattle.ternary.specs.declared.tern.Tern.{Tern}
use Rattle.switch_paths.specs.Graphs.{GraphData, nodes}

-- the state of each node, for how many places there is room, and how often a step changed the state
pub record PlainStepperData : Type 0 where
  pub state : List Tern
  pub places : ℕ
  pub moves : ℕ

-- a stepper fits the graphs with as many nodes as its state, and no more places than it has room for
pub record HasRoom (stepper : PlainStepperData) (g : GraphData) : Type 0 where
  pub count : length stepper.state ≡ nodes g
  pub places : length g.places ≤ stepper.places

-- so many numbers from this one on, upwards by one
abbrev pub numbers_from : ℕ → ℕ → List ℕ
numbers_from first zero = []
numbers_from first (suc count) = first ∷ numbers_from (first + 1) count
