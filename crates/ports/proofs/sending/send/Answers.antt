use Rattle.std.proofs.Common.{◌∙◌, arith}
use Rattle.ports.proofs.SendingLemmas.{front_more, part_front}
use Rattle.ports.proofs.ResultLemmas.{at_err}
use Rattle.ports.proofs.sending.send.Goals as goal

pub returns-in_err-at-clause-part : goal.returns-in_err-at-clause-part
returns-in_err-at-clause-part g c = at_err c.from_residual.result
    (part_front _ _ c.loop-at.at c.args.text.now (c.in_err-at.ensures.bytes ∙ c.loop-at.invariant.grew))

pub loop-at-preserved : goal.loop-at-preserved
loop-at-preserved g c = record {
  within = omega (arith, c.in_ok-at.ensures.bound);
  grew = front_more _ _ _ c.args.text.now c.loop-at.at c.in_ok-at.field-0 c.loop-at.invariant.grew c.in_ok-at.ensures.bytes;
  faults = c.in_ok-at.ensures.cause ∙ c.loop-at.invariant.faults;
  refusals = c.in_ok-at.ensures.memory ∙ c.loop-at.invariant.refusals;
  untouched = grind arith;
}
