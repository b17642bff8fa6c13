-- What is done to a stage.
use Rattle.std.specs.Prelude.{◌≡◌, ℕ, List, [], ◌∷◌, All}
use Rattle.ternary.specs.declared.tern.Tern.{Tern}
use Rattle.switch_paths.specs.Graphs.{GraphData}
use Rattle.channel_groups.specs.declared.change.Change.{Change}
use Rattle.settling.specs.declared.settling.Settled.{Settled}

-- room was taken for new nodes; a node of a graph was given these letters, one for all columns or one for each; the graph was edited; what takes
-- its steps was built, with groups of up to so many members; a unit step was taken; or it settled under a limit, with these counts in the columns
pub data Act : Type 0 where
  Reserved : Act
  Placed : GraphData → ℕ → List Tern → Act
  Edited : GraphData → Change → Act
  Built : ℕ → GraphData → Act
  Stepped : GraphData → Act
  Rested : GraphData → ℕ → List Settled → Act

-- these acts lead from one stage to the other, by what one act does
abbrev pub Leads : {M : Type 0} → (Act → M → M → Type 0) → M → List Act → M → Type 0
Leads did old [] new = new ≡ old
Leads {M} did old (act ∷ acts) new = (mid : M) × did act old mid × Leads did mid acts new

-- acts of one kind lead from one stage to the other
pub record LeadsBy {M : Type 0} (did : Act → M → M → Type 0) (Kind : Act → Type 0) (old new : M) : Type 0 where
  pub acts : List Act
  pub each : All Kind acts
  pub leads : Leads did old acts new
