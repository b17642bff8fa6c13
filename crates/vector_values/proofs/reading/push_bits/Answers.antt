use Rattle.std.proofs.Common.{[], ◌∷◌, ◌++◌, ap, ◌∙◌, arith}
use Rattle.vector_values.specs.Values.{Letter}
use Rattle.vector_values.proofs.ValueLemmas.{bits-done, bits-taken}
use Rattle.vector_values.proofs.reading.push_bits.Goals as goal

pub loop-left-preserved : goal.loop-left-preserved
loop-left-preserved c = (
  bits-taken c.loop-left.bits.items c.push.new.letters.items _ c.loop-left.left c.args.number c.loop-left.invariant.0 (omega (arith, c.loop-left-test.true))
      (c.in_ok-push.ensures ∙ ap (λ (letter : Letter). c.loop-left.bits.items ++ letter ∷ []) c.bit_of.ensures),
  omega (arith, c.loop-left.invariant.1),
)

pub returns : goal.returns
returns c = bits-done c.loop-left.bits.items _ c.loop-left.left c.args.number c.loop-left.invariant.0 (omega (arith, c.loop-left-test.false))
