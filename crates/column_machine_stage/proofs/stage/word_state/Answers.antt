-- The state of a node in a column is that with its words' bits.
use Rattle.std.proofs.Common.{sym, ◌∙◌}
use Rattle.column_machine_stage.proofs.ColumnLemmas.{column_states-get}
use Rattle.column_machine_stage.proofs.stage.word_state.Goals as goal

pub returns : goal.returns
returns c =
    c.state_in.ensures ∙ sym (column_states-get c.args.column c.args.node c.args.hi.now c.args.lo.now c.requires.high c.requires.low)
