-- The phases and steps of a record: the states behind the one with which they begin are those that they pass through.
-- After Bryant and Schuster, "Performance Evaluation of FMOSSIM, a Concurrent Switch-Level Fault Simulator", 1985.
use Rattle.std.specs.Prelude.{◌≡◌, ℕ, ◌+◌, ◌≤◌, Bool, List, ◌++◌, length}
use Rattle.switch_paths.specs.Graphs.{GraphData}
use Rattle.switch_paths.specs.Step.{IsStep}
use Rattle.settling.specs.Passing.{SettlesThrough, SteppingThrough}
use Rattle.settling.specs.Passes.{Pass}
use Rattle.good_run.specs.Recording.{RunData, Shown, shown_by, state_before}
use Rattle.beside.specs.Phases.{IsPhaseOf}

-- if a record has a phase, which settles through its states, behind what was shown before it and in front of what was shown after it, then the
-- states behind the one with which it begins are those of a phase of the good run
abbrev pub PhasesAreRecorded : Type 0
PhasesAreRecorded =
    (g : GraphData) (limit : ℕ) (run : RunData) (front back : List Shown) (pass : Pass) (joined : Bool) → run.shown ≡ front ++ (shown_by pass ++ back) →
    SettlesThrough g pass.before limit pass.states joined → IsPhaseOf g limit run (length front + 1) (length front + 1 + length pass.states)

-- from the state behind these looks of a record one unit step leads to the state behind those, which is one look more at most: none if it changes nothing
pub record IsStepOf (g : GraphData) (run : RunData) (first end : ℕ) : Type 0 where
  pub ordered : first ≤ end
  pub few : end ≤ first + 1
  pub inside : end ≤ length run.shown
  pub step : IsStep g (state_before run first) (state_before run end)

-- and so it is with a unit step
abbrev pub StepsAreRecorded : Type 0
StepsAreRecorded =
    (g : GraphData) (run : RunData) (front back : List Shown) (pass : Pass) → run.shown ≡ front ++ (shown_by pass ++ back) →
    SteppingThrough g 1 pass.before pass.states → IsStepOf g run (length front + 1) (length front + 1 + length pass.states)

-- a record that goes on behind what was shown has the same states before it, and so the same phases
abbrev pub PhasesStayRecorded : Type 0
PhasesStayRecorded =
    (g : GraphData) (limit : ℕ) (run new : RunData) (more : List Shown) (first end : ℕ) → new.start ≡ run.start → new.shown ≡ run.shown ++ more →
    IsPhaseOf g limit run first end → IsPhaseOf g limit new first end
