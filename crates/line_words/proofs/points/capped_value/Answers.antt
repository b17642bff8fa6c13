use Rattle.line_words.proofs.PointLemmas.{capped_step}
use Rattle.line_words.proofs.points.capped_value.Goals as goal

pub loop-digit-preserved : goal.loop-digit-preserved
loop-digit-preserved c =
    capped_step c.args.digits.now c.loop-digit.digit-index c.loop-digit.value c.number_of.result c.min-value.result c.loop-digit-test.true
    c.loop-digit.invariant c.number_of.ensures.value c.min-value.ensures
