-- One node more.
use Rattle.std.proofs.Common.{◌+◌, ◌*◌, arith}
use Rattle.ternary.specs.Tern.{may_one, may_zero}
use Rattle.node_elimination.proofs.GrowthLemmas.{Extends-trans}
use Rattle.node_elimination.proofs.RailLemmas.{AreRails-push}
use Rattle.node_elimination.proofs.inputs.rails_of_nodes.Goals as goal

pub loop-node-preserved : goal.loop-node-preserved
loop-node-preserved g c =
    let so_far = c.loop-node.invariant in
    record {
      extends = Extends-trans _ _ _ so_far.extends c.in_ok-rails.ensures.extends;
      hi = rw c.in_ok-add_to.ensures
          (AreRails-push may_one (λ node. 2 * node) c.args.constants.now c.loop-node.node _ _ c.loop-node.hi.items
          c.in_ok-rails.rails.hi c.in_ok-rails.ensures.extends
          so_far.hi c.in_ok-rails.ensures.hi);
      lo = rw c.in_ok-add_to-2.ensures
          (AreRails-push may_zero (λ node. 2 * node + 1) c.args.constants.now c.loop-node.node _ _ c.loop-node.lo.items
          c.in_ok-rails.rails.lo c.in_ok-rails.ensures.extends
          so_far.lo c.in_ok-rails.ensures.lo);
      rises = omega (arith, so_far.rises, c.in_ok-rails.ensures.rises);
      few = omega (arith, so_far.few, c.in_ok-rails.ensures.few);
    }
