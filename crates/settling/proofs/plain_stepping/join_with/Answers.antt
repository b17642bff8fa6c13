-- One node more is joined.
use Rattle.std.proofs.Common.{◌≢◌, ◌<◌, length, arith, below_more, get_or-set_same, get_or-set_other}
use Rattle.settling.proofs.plain_stepping.join_with.Goals as goal

pub loop-node-preserved : goal.loop-node-preserved
loop-node-preserved c = record {
  joined = below_more _ _
      (λ n below. let other : n ≢ c.loop-node.node = omega arith in rw get_or-set_other (c.loop-node.invariant.joined n below))
      (let inside : c.loop-node.node < length c.loop-node.next = omega (arith, c.loop-node.auto.next) in
      let kept = c.loop-node.invariant.rest c.loop-node.node (omega arith) in
      rw get_or-set_same (rw kept at c.join.ensures.value));
  rest = λ n above. let other : n ≢ c.loop-node.node =
      omega arith in rw get_or-set_other (c.loop-node.invariant.rest n (omega arith));
}
