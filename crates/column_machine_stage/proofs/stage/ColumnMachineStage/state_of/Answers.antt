-- The words are the stage's, and each node of a column has some.
use Rattle.std.proofs.Common.{ℕ, ◌<◌, List, length, refl, sym, ap₂, subst, ◌∙◌, arith}
use Rattle.switch_paths.specs.Switching.{state_at}
use Rattle.column_machines.specs.Columns.{column_states}
use Rattle.column_machine_stage.specs.Stages.{states_in}
use Rattle.column_machine_stage.proofs.ColumnLemmas.{within_high, within_low}
use Rattle.column_machine_stage.proofs.stage.ColumnMachineStage.state_of.Goals as goal

pub word_state-requires-clause-column : goal.word_state-requires-clause-column
word_state-requires-clause-column c = omega (arith, c.requires.column, c.count-few.ensures.value, c.count-few.ensures.few)

pub word_state-requires-clause-high : goal.word_state-requires-clause-high
word_state-requires-clause-high c =
    let stage = c.args.self.now in
    subst (λ (words : List ℕ). c.args.node < length words) (sym c.high_words-hi.ensures)
    (within_high c.args.column c.args.node (length (states_in stage c.args.column)) stage.hi stage.lo refl c.requires.node)

pub word_state-requires-clause-low : goal.word_state-requires-clause-low
word_state-requires-clause-low c =
    let stage = c.args.self.now in
    subst (λ (words : List ℕ). c.args.node < length words) (sym c.low_words-lo.ensures)
    (within_low c.args.column c.args.node (length (states_in stage c.args.column)) stage.hi stage.lo refl c.requires.node)

pub returns : goal.returns
returns c =
    c.word_state.ensures
    ∙ ap₂ (λ (hi lo : List ℕ). state_at (column_states c.args.column hi lo) c.args.node) c.high_words-hi.ensures c.low_words-lo.ensures
