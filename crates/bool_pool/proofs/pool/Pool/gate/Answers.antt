-- The value is the gate's on its operands' values, since they stand before it.
use Rattle.std.proofs.Common.{subst}
use Rattle.bool_pool.specs.Gate.{IsInOrder}
use Rattle.bool_pool.proofs.ValueLemmas.{value_at-gate}
use Rattle.bool_pool.proofs.pool.Pool.gate.Goals as goal

pub returns-clause-value : goal.returns-clause-value
returns-clause-value c = λ vars.
    rw (c.as_slice.ensures.keys, c.self.view_is)
    (value_at-gate c.args.self.now vars c.args.id.place (subst IsInOrder c.self.view_is c.self.invariant) c.requires)
