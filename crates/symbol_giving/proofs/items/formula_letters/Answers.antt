-- They are those that the work made.
use Rattle.symbol_giving.proofs.items.formula_letters.Goals as goal

pub returns-clause-only : goal.returns-clause-only
returns-clause-only c = record { core = c.work_on_stage.ensures.core; makes = c.work_on_stage.ensures.done.makes }

pub returns-clause-letter : goal.returns-clause-letter
returns-clause-letter c = c.work_on_stage.ensures.done.letter

pub returns-clause-own : goal.returns-clause-own
returns-clause-own c = c.work_on_stage.ensures.done.own

pub returns-clause-spent : goal.returns-clause-spent
returns-clause-spent c = c.work_on_stage.ensures.done.spent
