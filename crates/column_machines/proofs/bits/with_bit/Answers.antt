use Rattle.std.proofs.Common.{sym, ◌∙◌}
use Rattle.column_machines.proofs.ColumnLemmas.{column-set_here, column-set_other, column-clear_here, column-clear_other}
use Rattle.column_machines.proofs.bits.with_bit.Goals as goal

pub returns-then-set-clause-here : goal.returns-then-set-clause-here
returns-then-set-clause-here c = column-set_here c.args.word c.args.column c.requires ∙ sym c.if-set.true

pub returns-then-set-clause-other : goal.returns-then-set-clause-other
returns-then-set-clause-other c = λ other few. column-set_other c.args.word c.args.column c.requires other

pub returns-else-set-clause-here : goal.returns-else-set-clause-here
returns-else-set-clause-here c = column-clear_here c.args.word c.args.column c.requires ∙ sym c.if-set.false

pub returns-else-set-clause-other : goal.returns-else-set-clause-other
returns-else-set-clause-other c = column-clear_other c.args.word c.args.column c.requires
