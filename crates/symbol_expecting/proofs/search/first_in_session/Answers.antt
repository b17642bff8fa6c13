-- The stage's work is that of its maker alone.
use Rattle.symbol_expecting.proofs.search.first_in_session.Goals as goal

pub work_on_stage-requires : goal.work_on_stage-requires
work_on_stage-requires c = c.requires

pub returns-clause-makes : goal.returns-clause-makes
returns-clause-makes c = record { core = c.work_on_stage.ensures.core; makes = c.work_on_stage.ensures.done.makes.makes }

pub returns-clause-spent : goal.returns-clause-spent
returns-clause-spent c = c.work_on_stage.ensures.done.spent

pub returns-clause-first : goal.returns-clause-first
returns-clause-first c = c.work_on_stage.ensures.done.first
