-- What an act does to the states of columns.
use Rattle.std.specs.Prelude.{◌≡◌, ℕ, ◌<◌, List, slice_index_or, slice_set}
use Rattle.ternary.specs.declared.tern.Tern.{Tern}
use Rattle.switch_paths.specs.Graphs.{nodes}
use Rattle.switch_paths.specs.Step.{IsStep}
use Rattle.settling.specs.declared.settling.Settled.{Settled}
use Rattle.settling.specs.Settling.{Settles}
use Rattle.column_stage.specs.Acts.{Act, Reserved, Placed, Edited, Built, Stepped, Rested}
use Rattle.column_stage.specs.Columns.{letter_in, with_new_nodes}

-- to those of one: room and a build leave them, a node is given the column's letter, each new node of an edit is X, a step is a unit step of the
-- graph, and a phase settles, with the column's count
abbrev pub MovesState : ℕ → Act → List Tern → List Tern → Type 0
MovesState column Reserved old new = new ≡ old
MovesState column (Placed g node letters) old new = new ≡ slice_set old node (letter_in column letters)
MovesState column (Edited g change) old new = new ≡ with_new_nodes old (nodes g)
MovesState column (Built large g) old new = new ≡ old
MovesState column (Stepped g) old new = IsStep g old new
MovesState column (Rested g limit counts) old new =
    (past : Settled) → Settles g old limit new (slice_index_or counts column past).steps (slice_index_or counts column past).joined

-- to those of all, which are as many as before
pub record MovesColumns {M : Type 0} (columns : M → ℕ) (states : M → ℕ → List Tern) (act : Act) (old new : M) : Type 0 where
  pub count : columns new ≡ columns old
  pub each : (column : ℕ) → column < columns old → MovesState column act (states old column) (states new column)
