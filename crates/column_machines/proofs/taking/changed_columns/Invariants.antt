-- The columns that some change so far changes.
use Rattle.std.proofs.Common.{take}
use Rattle.column_machines.proofs.TakingLemmas.{AreChanged}
use Rattle.column_machines.proofs.taking.changed_columns.Given as goal

abbrev pub invariant-loop-change : goal.invariant-loop-change
invariant-loop-change l = AreChanged l.used l.hi l.lo (take l.change-index l.changes) l.columns
