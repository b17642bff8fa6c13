-- One node more came, if it is a storage node.
use Rattle.std.proofs.Common.{inl, inr, ◌∙◌, arith}
use Rattle.std.proofs.lemmas.Bool.{cases_lt}
use Rattle.vicinity.proofs.wide.wake_all.Goals as goal

pub loop-node-init : goal.loop-node-init
loop-node-init c = record { count = omega arith; all = λ node before. absurd (omega (arith, before)) }

pub wake-requires-clause-nodes : goal.wake-requires-clause-nodes
wake-requires-clause-nodes c = c.loop-node.invariant.count ∙ c.requires

pub loop-node-preserved : goal.loop-node-preserved
loop-node-preserved c = record {
  count = c.wake.ensures.count ∙ c.loop-node.invariant.count;
  all = λ node before storage.
      elim (cases_lt node c.loop-node.node) [
        | inl earlier ↦ c.wake.ensures.stays node (c.loop-node.invariant.all node earlier storage)
        | inr last ↦ c.wake.ensures.all node (omega (arith, before, last)) storage
      ];
}

pub returns-clause-all : goal.returns-clause-all
returns-clause-all c = λ node storage.
    c.loop-node.invariant.all node (omega (arith, storage.inside, c.loop-node-test.false, c.nodes-count.ensures)) storage
