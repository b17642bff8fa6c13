-- One node more is there.
use Rattle.std.proofs.Common.{◌≡◌, [], ◌∷◌, ◌++◌, rules, arith}
use Rattle.machine_parts.proofs.EditingLemmas.{replicated-more}
use Rattle.unit_step.proofs.growing.grow_by.Goals as goal

pub loop-node-preserved : goal.loop-node-preserved
loop-node-preserved g c =
    let pushed : c.push_reserved.new.self.items ≡ c.loop-node.all.items ++ c.args.item ∷ [] = search rules in
    record {
      items = replicated-more c.args.item c.args.all.now.items c.loop-node.all.items c.push_reserved.new.self.items c.loop-node._node c.loop-node.invariant.low
          c.loop-node.invariant.items pushed;
      low = omega arith;
      high = omega arith;
      space = search rules;
    }
