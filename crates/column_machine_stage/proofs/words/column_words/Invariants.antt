use Rattle.column_machine_stage.specs.Stages.{HasValuesBelow}
use Rattle.column_machine_stage.proofs.words.column_words.Given as goal

abbrev pub invariant-loop-column : goal.invariant-loop-column
invariant-loop-column l = HasValuesBelow l.column l.states l.words
