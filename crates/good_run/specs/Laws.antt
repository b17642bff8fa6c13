-- The law of records, proved as the contract of a function in `src/laws.rt`.
use Rattle.std.specs.Prelude.{◌≡◌, ℕ, true, false, List, ◌++◌}
use Rattle.settling.specs.Passes.{Pass, see_passes}
use Rattle.good_run.specs.Recording.{RunData, look_at, shown_of}

-- what the end of a step or a phase makes of a record: nothing
abbrev pub rest_in : RunData → ℕ → RunData
rest_in run steps = run

-- if nothing was left out of a record, it has just the states of the steps and phases that were shown, behind those that it had
abbrev pub RecordsTellThePasses : Type 0
RecordsTellThePasses =
    (run : RunData) (passes : List Pass) → (see_passes (look_at true) (look_at false) rest_in run passes).whole ≡ true →
    (see_passes (look_at true) (look_at false) rest_in run passes).shown ≡ run.shown ++ shown_of passes
