-- One digit more, and the last one.
use Rattle.std.proofs.Common.{◌∙◌, arith}
use Rattle.wave_dump.proofs.CodeLemmas.{digit_more, digit_last}
use Rattle.wave_dump.proofs.putting.put_code.Goals as goal

pub loop-rest-preserved : goal.loop-rest-preserved
loop-rest-preserved g c = record {
  left = digit_more _ c.loop-rest.pen.text c.put_digit.new.pen.text c.loop-rest.rest (omega (arith, c.loop-rest-test.true)) c.loop-rest.invariant.left
      c.put_digit.ensures.text;
  before = c.put_digit.ensures.before ∙ c.loop-rest.invariant.before;
}

pub returns-clause-text : goal.returns-clause-text
returns-clause-text g c =
    digit_last _ c.loop-rest.pen.text c.put_digit-2.new.pen.text c.loop-rest.rest (omega (arith, c.loop-rest-test.false)) c.loop-rest.invariant.left
    c.put_digit-2.ensures.text
