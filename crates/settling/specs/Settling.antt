-- Settling: unit steps while they change something, and past a limit joining steps.
-- In the manner of MOSSIM II: Bryant, "A Switch-Level Model and Simulator for MOS Digital Systems", 1984; the
-- limit and the joining step are this project's own.
use Rattle.std.specs.Prelude.{◌≡◌, ◌≢◌, ℕ, zero, suc, ◌+◌, ◌<◌, ◌≤◌, ◌↔◌, Bool, ◌⊎◌, List, length, count_by, IsTrue}
use Rattle.ternary.specs.declared.tern.Tern.{Tern}
use Rattle.ternary.specs.declared.tern.Tern.TheVariants.{Unk}
use Rattle.switch_paths.specs.Switching.{state_at}
use Rattle.switch_paths.specs.Graphs.{GraphData, is_storage_level}
use Rattle.switch_paths.specs.Step.{IsStep}
use Rattle.switch_paths.specs.Laws.{IsJoin}

-- plain replacements: the state gives way to its step while that changes something, at most `limit` times
abbrev pub Stepping : GraphData → ℕ → List Tern → ℕ → List Tern → Type 0
Stepping g zero old count new = (count ≡ 0) × (new ≡ old)
Stepping g (suc left) old count new =
    (next : List Tern) × IsStep g old next ×
    (((next ≡ old) × (count ≡ 0) × (new ≡ old)) ⊎
    ((next ≢ old) × ((rest : ℕ) × (count ≡ rest + 1) × Stepping g left next rest new)))

-- a joining step: every node takes the join of its state and its steady state, all under the same old state
pub record IsJoinStep (g : GraphData) (old new : List Tern) : Type 0 where
  pub response : List Tern
  pub step : IsStep g old response
  pub joins : IsJoin old response new

-- joining replacements: the state gives way to its joining step while that changes something
abbrev pub Joining : GraphData → List Tern → ℕ → List Tern → Type 0
Joining g old zero new = IsJoinStep g old old × (new ≡ old)
Joining g old (suc count) new =
    (next : List Tern) × IsJoinStep g old next × (next ≢ old) × Joining g next count new

-- a state settles: plain replacements first, then joining ones; `steps` counts both kinds, `joined` says
-- whether there was one of the second
pub record Settles (g : GraphData) (old : List Tern) (limit : ℕ) (new : List Tern) (steps : ℕ) (joined : Bool) : Type 0 where
  pub first : ℕ
  pub second : ℕ
  pub mid : List Tern
  pub stepping : Stepping g limit old first mid
  pub joining : Joining g mid second new
  pub total : steps ≡ first + second
  pub was_joined : IsTrue joined ↔ (0 < second)

-- every node keeps its state or becomes X
abbrev pub StaysOrBecomesX : List Tern → List Tern → Type 0
StaysOrBecomesX old new =
    (node : ℕ) → node < length old → (state_at new node ≡ state_at old node) ⊎ (state_at new node ≡ Unk)

-- so many steps that changed something, at most `limit`, lead from one state to another, and none of them
-- leaves it as it was
pub record Moving (limit : ℕ) (old : List Tern) (count : ℕ) (new : List Tern) : Type 0 where
  pub limited : count ≤ limit
  pub unmoved : count ≡ 0 → new ≡ old

-- so many steps, in which nodes became X alone, lead from one state to another, which is the same exactly if
-- there is none of them
pub record Fading (old : List Tern) (count : ℕ) (new : List Tern) : Type 0 where
  pub fades : StaysOrBecomesX old new
  pub rested : (count ≡ 0) ↔ (new ≡ old)

-- on any graph a stepper's state shifts: by steps, at most `limit`, and then by joining steps, both counted as
-- where it settles
pub record Shifts (old : List Tern) (limit : ℕ) (new : List Tern) (steps : ℕ) (joined : Bool) : Type 0 where
  pub first : ℕ
  pub second : ℕ
  pub mid : List Tern
  pub moving : Moving limit old first mid
  pub fading : Fading mid second new
  pub total : steps ≡ first + second
  pub was_joined : IsTrue joined ↔ (0 < second)

-- how many storage nodes a graph has
abbrev pub storage_nodes : GraphData → ℕ
storage_nodes g = count_by is_storage_level g.levels
