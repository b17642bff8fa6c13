-- Settling of columns together: what is told of all of them is the greatest count.
use Rattle.std.specs.Prelude.{◌≡◌, ℕ, ◌<◌, ◌≤◌, ◌⊎◌, true, List}
use Rattle.ternary.specs.declared.tern.Tern.{Tern}
use Rattle.switch_paths.specs.Graphs.{GraphData}
use Rattle.switch_paths.specs.Step.{IsStep}
use Rattle.settling.specs.declared.settling.Settled.{Settled}
use Rattle.settling.specs.Settling.{Stepping, Joining, Settles}

-- a column settles, with no more steps than are told of all, and joined only if that is told
pub record SettlesWithin (g : GraphData) (old : List Tern) (limit : ℕ) (new : List Tern) (told : Settled) : Type 0 where
  pub own : Settled
  pub settles : Settles g old limit new own.steps own.joined
  pub few : own.steps ≤ told.steps
  pub joined : own.joined ≡ true → told.joined ≡ true

-- all columns settle, and some column has the count and the mark that are told
pub record SettleTogether (g : GraphData) (columns : ℕ) (old : ℕ → List Tern) (limit : ℕ) (new : ℕ → List Tern) (told : Settled) : Type 0 where
  pub each : (column : ℕ) → column < columns → SettlesWithin g (old column) limit (new column) told
  pub greatest : (column : ℕ) × (column < columns) × Settles g (old column) limit (new column) told.steps told.joined

-- a column takes plain steps, no more than so many
pub record StepsWithin (g : GraphData) (limit : ℕ) (old new : List Tern) (taken : ℕ) : Type 0 where
  pub count : ℕ
  pub stepping : Stepping g limit old count new
  pub few : count ≤ taken
  pub reached : (count ≡ taken) ⊎ IsStep g new new

-- all columns take plain steps, and some column takes so many
pub record StepTogether (g : GraphData) (columns : ℕ) (limit : ℕ) (old new : ℕ → List Tern) (taken : ℕ) : Type 0 where
  pub each : (column : ℕ) → column < columns → StepsWithin g limit (old column) (new column) taken
  pub front : (column : ℕ) × (column < columns) × Stepping g limit (old column) taken (new column)

-- a column takes joining steps, no more than so many, and none if it rested
pub record JoinsWithin (g : GraphData) (old new : List Tern) (taken : ℕ) : Type 0 where
  pub count : ℕ
  pub joining : Joining g old count new
  pub few : count ≤ taken
  pub rested : IsStep g old old → count ≡ 0

-- all columns take joining steps, and if there were any, some column that didn't rest takes so many
pub record JoinTogether (g : GraphData) (columns : ℕ) (old new : ℕ → List Tern) (taken : ℕ) : Type 0 where
  pub each : (column : ℕ) → column < columns → JoinsWithin g (old column) (new column) taken
  pub front : (taken ≡ 0) ⊎ ((column : ℕ) × (column < columns) × (IsStep g (old column) (old column) → ⊥) × Joining g (old column) taken (new column))
