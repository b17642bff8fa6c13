-- Phases that a machine took by itself, and is to take again.
use Rattle.std.specs.Prelude.{◌≡◌, ℕ, ◌<◌, Bool, List, length, slice_index_or}
use Rattle.ternary.specs.declared.tern.Tern.{Tern}
use Rattle.switch_paths.specs.Graphs.{GraphData, nodes}
use Rattle.switch_paths.specs.Rails.{IsSound}
use Rattle.settling.specs.declared.settling.Settled.{Settled}
use Rattle.settling.specs.Settling.{Settles}
use Rattle.settling.specs.Passing.{last_state}
use Rattle.column_stage.specs.Seeing.{PhaseThrough}
use Rattle.machine_laws.specs.Machines.{MachineData}
use Rattle.machine_laws.specs.Fitting.{FitsGraph}
use Rattle.fault_stage.specs.declared.passing.Passed.{Passed}
use Rattle.fault_stage.specs.Stages.{SettlesSeen}

-- the phase is one of the graph
pub record IsPassed (g : GraphData) (p : Passed) : Type 0 where
  pub settles : Settles g p.start.items p.limit p.end.items p.told.steps p.told.joined
  pub passed : List (List Tern)
  pub through : PhaseThrough g p.limit p.start.items p.told.steps passed
  pub last : p.end.items ≡ last_state p.start.items passed
  pub counted : length p.end.items ≡ nodes g
  pub sound : IsSound p.end.items

-- the phase at this place of a list began in this state, under this limit
pub record StartsAt (passes : List Passed) (place : ℕ) (state : List Tern) (limit : ℕ) : Type 0 where
  pub inside : place < length passes
  pub start : (p : Passed) → slice_index_or passes place p ≡ p → p.start.items ≡ state
  pub limit_is : (p : Passed) → slice_index_or passes place p ≡ p → p.limit ≡ limit

-- a machine that goes by itself settled
pub record SettlesAlone {S : Type 0} (see : S → List Tern → S) (g : GraphData) (limit steps : ℕ) (joined : Bool) (state : List Tern) (old new : MachineData)
    (before after : S) : Type 0 where
  pub fits : FitsGraph g new
  pub last : new.last ≡ old.last
  pub takes : SettlesSeen see g limit steps joined state new.state before after

-- a machine went where a phase of the graph led that began in this state, under this limit
pub record GoesAgain (g : GraphData) (state : List Tern) (limit : ℕ) (told : Settled) (old new : MachineData) : Type 0 where
  pub phase : Passed
  pub is : IsPassed g phase
  pub start : phase.start.items ≡ state
  pub limit_is : phase.limit ≡ limit
  pub fits : FitsGraph g new
  pub state_is : new.state ≡ phase.end.items
  pub last : new.last ≡ old.last
  pub told_is : told ≡ phase.told
