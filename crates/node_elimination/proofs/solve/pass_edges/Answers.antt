-- One edge more.
use Rattle.std.proofs.Common.{◌≡◌, [], inl, inr, arith}
use Rattle.std.proofs.lemmas.Bool.{cases_eq}
use Rattle.node_elimination.proofs.EquationsLemmas.{Moves-trans}
use Rattle.node_elimination.proofs.PassingLemmas.{PassesEdges-more, gone-same}
use Rattle.node_elimination.proofs.solve.pass_edges.Goals as goal

pub loop-j-preserved : goal.loop-j-preserved
loop-j-preserved g c =
    let so_far = c.loop-j.invariant in
    let next = c.in_ok-pass_edge.ensures in
    let j = c.loop-j.j in
    record {
      moves = Moves-trans [] _ _ _ _ _ _ _ _ _ so_far.moves next.moves (omega (arith, so_far.rises, next.rises));
      passes = PassesEdges-more c.args.k c.args.i j _ _ _ _ _ _ c.requires.in_range c.requires.row
          (omega arith) c.requires.other c.requires.gone
          so_far.moves.size so_far.moves.left so_far.passes next.passes;
      rises = omega (arith, so_far.rises, next.rises);
      few = omega (arith, so_far.few, next.few);
      spared = λ passed. elim (cases_eq j c.args.k) [
        | inl same ↦
            let idle : c.pass_edge.new.steps ≡ c.loop-j.steps =
            next.idle (gone-same c.args.system.now c.loop-j.system j c.args.k so_far.moves.left same c.requires.gone) in
            omega (arith, so_far.few)
        | inr other ↦ omega (arith, so_far.spared, next.few)
      ];
    }
