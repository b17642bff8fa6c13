-- One member more.
use Rattle.std.proofs.Common.{nat_le, if◌then◌else◌, ◌∙◌, arith}
use Rattle.switch_paths.specs.Graphs.{level_of}
use Rattle.node_elimination.proofs.EquationsLemmas.{IsSquare-put_right, edges-put_right, size-put_right, left-put_right}
use Rattle.node_elimination.proofs.BaseLemmas.{rights-more}
use Rattle.node_elimination.proofs.level.put_levels.Goals as goal

pub loop-i-preserved : goal.loop-i-preserved
loop-i-preserved c =
    let so_far = c.loop-i.invariant in
    let graph = c.args.links.now.graph.now in
    let system = c.loop-i.system in
    let i = c.loop-i.i in
    rw c.put_right.ensures (record {
      rights = rights-more system so_far.square i c.chosen.result
          (λ k. if nat_le c.args.links.now.level (level_of graph k) then c.args.truth.place else c.args.falsehood.place)
          (omega arith) so_far.rights
          (rw c.level.ensures.value at c.chosen.ensures);
      square = IsSquare-put_right system i c.chosen.result so_far.square;
      edges = edges-put_right system i c.chosen.result ∙ so_far.edges;
      size = size-put_right system i c.chosen.result ∙ so_far.size;
      left = left-put_right system i c.chosen.result ∙ so_far.left;
    })
