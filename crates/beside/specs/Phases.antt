-- A phase of the good run, by its record.
-- After Bryant and Schuster, "Performance Evaluation of FMOSSIM, a Concurrent Switch-Level Fault Simulator", 1985.
use Rattle.std.specs.Prelude.{ℕ, ◌+◌, ◌-◌, ◌<◌, ◌≤◌, length}
use Rattle.switch_paths.specs.Graphs.{GraphData}
use Rattle.good_run.specs.Recording.{RunData, state_before}
use Rattle.run_beside.specs.Replacing.{IsReplacement}

-- the states with these numbers are those of a phase of the good run: each is the replacement of the one before it, of the kind that its number says,
-- and the state behind the last is its own replacement from then on
pub record IsPhaseOf (g : GraphData) (limit : ℕ) (run : RunData) (first end : ℕ) : Type 0 where
  pub ordered : first ≤ end
  pub inside : end ≤ length run.shown
  pub moves : (i : ℕ) → first + i < end → IsReplacement g limit i (state_before run (first + i)) (state_before run (first + i + 1))
  pub stays : (count : ℕ) → end - first ≤ count → IsReplacement g limit count (state_before run end) (state_before run end)
