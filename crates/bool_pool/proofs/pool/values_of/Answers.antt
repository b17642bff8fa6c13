-- The values of the gates that were passed serve for the next one, since the gates are in order.
use Rattle.std.proofs.Common.{◌∙◌, ap, length, take, arith, rules}
use Rattle.std.proofs.lemmas.List.{length-take-le}
use Rattle.bool_pool.specs.Value.{assigned, values}
use Rattle.bool_pool.proofs.ValueLemmas.{length-values, values-more}
use Rattle.bool_pool.proofs.pool.values_of.Goals as goal

pub loop-gate-init : goal.loop-gate-init
unfolding values
loop-gate-init c = search rules

pub value_of-value-requires : goal.value_of-value-requires
value_of-value-requires c = λ k operand.
    omega (
      arith,
      c.requires c.loop-gate.gate-index k operand,
      ap length (c.as_slice.ensures.value ∙ c.loop-gate.invariant),
      length-values (take c.loop-gate.gate-index c.args.gates.now) (assigned c.args.vars.now),
      length-take-le c.loop-gate.gate-index c.args.gates.now (omega arith),
    )

pub loop-gate-preserved : goal.loop-gate-preserved
loop-gate-preserved c =
    c.in_ok-push.ensures.items
    ∙ rw (c.value_of-value.ensures, c.as_slice.ensures.value)
    (values-more c.args.gates.now c.loop-gate.gate-index (assigned c.args.vars.now) c.loop-gate.done.items (omega arith)
    c.loop-gate.invariant)
