-- So far the values of the gates that were passed are done.
use Rattle.std.proofs.Common.{◌≡◌, take}
use Rattle.bool_pool.specs.Value.{assigned, values}
use Rattle.bool_pool.proofs.pool.values_of.Given as goal

abbrev pub invariant-loop-gate : goal.invariant-loop-gate
invariant-loop-gate l = l.done.items ≡ values (take l.gate-index l.gates) (assigned l.vars)
