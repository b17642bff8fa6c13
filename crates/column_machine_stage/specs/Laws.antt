-- Laws of a stage of columns: what acts do to it, one after the other.
use Rattle.std.specs.Prelude.{◌≡◌, ℕ, ◌<◌, List, [], ◌∷◌}
use Rattle.switch_paths.specs.Graphs.{GraphData}
use Rattle.switch_paths.specs.Step.{IsStep}
use Rattle.column_stage.specs.Acts.{Act, Built, Stepped, Leads}
use Rattle.column_machine_stage.specs.Stages.{StageData, states_in}
use Rattle.column_machine_stage.specs.Acts.{DidAct}

-- whatever acts were done, there are as many columns
abbrev pub ActsKeepColumns : Type 0
ActsKeepColumns = (acts : List Act) (old new : StageData) → Leads DidAct old acts new → new.columns ≡ old.columns

-- what a command that steps does, a build and a step, leads each column by one unit step of the graph
abbrev pub StepsStepEachColumn : Type 0
StepsStepEachColumn =
    (large : ℕ) (g : GraphData) (old new : StageData) → Leads DidAct old (Built large g ∷ Stepped g ∷ []) new →
    (column : ℕ) → column < old.columns → IsStep g (states_in old column) (states_in new column)
