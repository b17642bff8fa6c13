-- One node more is there.
use Rattle.std.proofs.Common.{◌≡◌, [], ◌∷◌, ◌++◌, length, ap, ◌∙◌, rules, arith}
use Rattle.std.proofs.lemmas.List.{length_push}
use Rattle.machine_parts.specs.Readers.{readers_of}
use Rattle.machine_parts.proofs.EditingLemmas.{readers_more}
use Rattle.part_steps.proofs.readers.grow_readers.Goals as goal

pub loop-node-preserved : goal.loop-node-preserved
loop-node-preserved c =
    let pushed : c.push_reserved.new.self.items ≡ c.loop-node.readers.items ++ c.new.result ∷ [] = search rules in
    record {
      count = omega (arith, ap length pushed, length_push c.loop-node.readers.items c.new.result, c.loop-node.invariant.count);
      low = omega arith;
      high = omega arith;
      same = λ node.
          ap (λ list. readers_of list node) pushed
          ∙ (readers_more c.loop-node.readers.items c.new.result c.new.ensures.items node ∙ c.loop-node.invariant.same node);
      space = search rules;
    }
