-- Each column is a machine that fits the graph: at first, and after a step.
use Rattle.std.proofs.Common.{◌≡◌, ℕ, ◌<◌, Bool, true, false, List, length, refl, sym, ap, subst, arith}
use Rattle.std.specs.Prelude.{replicate, Option, None}
use Rattle.std.proofs.lemmas.List.{get_or-replicate}
use Rattle.ternary.specs.declared.tern.Tern.{Tern}
use Rattle.switch_paths.specs.Graphs.{GraphData, IsWired}
use Rattle.switch_paths.specs.Step.{IsStep}
use Rattle.settling.specs.Settling.{IsJoinStep}
use Rattle.vicinity.specs.Wides.{WideData}
use Rattle.wide_groups.specs.Moving.{MovesIn, RetouchesIn}
use Rattle.wide_groups.proofs.WideCases.{moves_without}
use Rattle.machine_parts.specs.declared.part.MachinePart.{MachinePart}
use Rattle.machine_laws.specs.Machines.{MachineData}
use Rattle.machine_laws.specs.Columns.{AdvancesInColumn}
use Rattle.machine_laws.specs.Fitting.{FitsGraph}
use Rattle.machine_laws.proofs.FittingLemmas as unit
use Rattle.truth_parts.specs.Columns.{states_in}
use Rattle.truth_parts.specs.Fitting.{FitsInAll, HasFit, HasSound}
use Rattle.truth_parts.specs.Stepping.{StepsTo}
use Rattle.truth_parts.proofs.ColumnLemmas.{states-has}

-- the machine of a column, with just these parts, marks and states, fits the graph
pub column_machine : (g : GraphData) (parts : List MachinePart) (marks : List Bool) (state : List Tern) → (fit : HasFit g parts marks state) →
    FitsGraph g (record fit.machine { parts = parts; marks = marks; state = state })
column_machine g parts marks state fit =
    subst (FitsGraph g) (λ i. record fit.machine { parts = fit.parts_are i; marks = fit.marks_are i; state = fit.state_is i }) fit.fits

module _ (g : GraphData) (wired : IsWired g) (parts : List MachinePart) (marks new_marks : List Bool) (state next : List Tern)
    (fit : HasFit g parts marks state) where
  -- a column's step is one of a machine that fits the graph
  advances : (joining : Bool) → StepsTo joining parts marks new_marks state next →
      AdvancesInColumn joining (record fit.machine { parts = parts; marks = marks; state = state })
      (record fit.machine { parts = parts; marks = new_marks; state = next })
  advances joining steps = record {
    step = record {
      moves = subst (λ (wide : Option WideData). MovesIn joining parts marks wide state next) (sym fit.without) (moves_without joining parts marks state next steps.moves);
      wide = subst (λ (wide : Option WideData). RetouchesIn joining wide wide state next) (sym fit.without) tt;
      build = record { groups = refl; last = refl; spare = refl };
      held = record { parts = refl; uses = refl; texts = refl };
    };
    marks = steps.keeps;
  }

  -- so it is the unit step, or the joining step
  pub plain_step : StepsTo false parts marks new_marks state next → IsStep g state next
  plain_step steps = (unit.columns_step_apart g _ _ wired (column_machine g parts marks state fit) (advances false steps)).0

  pub join_step : StepsTo true parts marks new_marks state next → IsJoinStep g state next
  join_step steps = (unit.columns_join_apart g _ _ wired (column_machine g parts marks state fit) (advances true steps)).0

  -- and the column fits the graph again
  fits_with : FitsGraph g (record fit.machine { parts = parts; marks = new_marks; state = next }) → HasFit g parts new_marks next
  fits_with fits = record {
    machine = record fit.machine { parts = parts; marks = new_marks; state = next };
    fits = fits;
    without = fit.without;
    parts_are = refl;
    marks_are = refl;
    state_is = refl;
  }

  pub fits_again : (joining : Bool) → StepsTo joining parts marks new_marks state next → HasFit g parts new_marks next
  fits_again true steps = fits_with ((unit.columns_join_apart g _ _ wired (column_machine g parts marks state fit) (advances true steps)).1)
  fits_again false steps = fits_with ((unit.columns_step_apart g _ _ wired (column_machine g parts marks state fit) (advances false steps)).1)

-- ---- at first

-- a machine that fits the graph does so in each column, where all parts are marked
pub FitsInAll-fresh : {A : Type 0} → (g : GraphData) (m : MachineData) (columns : ℕ) (holds : A → ℕ → Bool) (parts : List MachinePart) (hi lo : List A) → FitsGraph g m →
    m.wide ≡ None → parts ≡ m.parts → length lo ≡ length hi → ((column : ℕ) → column < columns → HasSound g holds hi lo column) →
    FitsInAll g columns holds parts (replicate (length parts) true) hi lo
FitsInAll-fresh g m columns holds parts hi lo fits without are even sound column inside =
    let has = sound column inside in
    let same : states_in holds column hi lo ≡ has.state = states-has holds column hi lo even has.state has.has in
    let marks = replicate (length parts) true in
    record {
      machine = record m { marks = marks; state = has.state };
      without = without;
      fits = unit.marked_machines_fit g m marks has.state fits without
          (λ k within. get_or-replicate (length parts) k true false (omega (arith, within, ap length are))) has.counted has.sound;
      parts_are = sym are;
      marks_are = refl;
      state_is = sym same;
    }
