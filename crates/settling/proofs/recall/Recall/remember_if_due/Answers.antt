-- The state is due, or what is remembered stays.
use Rattle.settling.proofs.recall.Recall.remember_if_due.Goals as goal

pub returns-then-is_due : goal.returns-then-is_due
returns-then-is_due c = rw c.is_due.ensures at c.remember.ensures
