-- A machine after clocks' nodes were placed: they are input nodes, so it fits still, and no member was placed.
use Rattle.std.proofs.Common.{◌≡◌, All, List, Option, None, Some, refl, sym, ap, ◌∙◌}
use Rattle.strength_order.specs.declared.TheConstants.{INPUT_LEVEL}
use Rattle.switch_paths.specs.Graphs.{GraphData, level_of}
use Rattle.machine_laws.specs.Machines.{MachineData}
use Rattle.session_meaning.specs.Sessions.{ClockData}
use Rattle.machine_stage.specs.Machines.{FitsIn, moves_of, placed_of}
use Rattle.machine_stage.specs.Stages.{TicksIn, StaysPut}
use Rattle.machine_stage.proofs.PlacingLemmas.{fits_there}

-- clocks' nodes that are input nodes were placed in a machine that fits
module _ (g : GraphData) (clocks : List ClockData) (old new : Option MachineData) (inputs : All (λ clock. level_of g clock.node ≡ INPUT_LEVEL) clocks) where
  pub fits-ticked : FitsIn g old → TicksIn g clocks old new → FitsIn g new
  fits-ticked built ticks = by old refl ticks
    where
      by : (found : Option MachineData) → old ≡ found → TicksIn g clocks found new → FitsIn g new
      by None is none = absurd (let same : Some built.machine ≡ None = sym built.there ∙ is in cc)
      by (Some machine) is (next, there, tick) = record { machine = next; there = there; fits = tick.fits (fits_there g old machine built is) }

  pub stays-ticked : FitsIn g old → TicksIn g clocks old new → StaysPut old new
  stays-ticked built ticks = by old refl ticks
    where
      by : (found : Option MachineData) → old ≡ found → TicksIn g clocks found new → StaysPut old new
      by None is none = absurd (let same : Some built.machine ≡ None = sym built.there ∙ is in cc)
      by (Some machine) is (next, there, tick) = record {
        moves = ap moves_of there ∙ tick.moves ∙ ap moves_of (sym is);
        placed = ap placed_of there ∙ tick.unplaced (fits_there g old machine built is) inputs ∙ ap placed_of (sym is);
      }
