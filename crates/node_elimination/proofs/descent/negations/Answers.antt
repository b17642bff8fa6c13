-- One negation more.
use Rattle.std.proofs.Common.{arith}
use Rattle.node_elimination.proofs.GrowthLemmas.{Extends-trans}
use Rattle.node_elimination.proofs.InputLemmas.{AreNegations-push, Grows-negation}
use Rattle.node_elimination.proofs.descent.negations.Goals as goal

pub loop-i-preserved : goal.loop-i-preserved
loop-i-preserved g c =
    let so_far = c.loop-i.invariant in
    let next = c.in_ok-negation.ensures in
    record {
      extends = Extends-trans _ _ _ so_far.extends next.extends;
      negated = rw c.in_ok-add_to.ensures
          (AreNegations-push _ _ _ c.args.ids.now c.loop-i.i c.loop-i.negations.items c.in_ok-negation.negation
          (omega arith) c.requires
          so_far.extends next.extends so_far.negated next.made);
      grows = rw c.in_ok-add_to.ensures
          (Grows-negation _ _ _ c.args.ids.now c.loop-i.i c.loop-i.negations.items c.in_ok-negation.negation _ 1 _ _
          (omega arith) so_far.extends
          next.extends so_far.grows next.made (omega arith) (omega (arith, so_far.rises, next.step)));
      rises = omega (arith, so_far.rises, next.step);
      few = omega (arith, so_far.few, next.step);
    }
