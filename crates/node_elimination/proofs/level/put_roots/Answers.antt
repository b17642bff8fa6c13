-- One member more.
use Rattle.std.proofs.Common.{◌<◌, [], length, arith}
use Rattle.node_elimination.proofs.EquationsLemmas.{Moves-trans}
use Rattle.node_elimination.proofs.OneLink.{gate-inside, source-inside}
use Rattle.node_elimination.proofs.BaseLemmas.{PutsRights-more, driven_base-extends}
use Rattle.node_elimination.proofs.level.put_roots.Goals as goal

pub loop-i-preserved : goal.loop-i-preserved
loop-i-preserved g c =
    let so_far = c.loop-i.invariant in
    let next = c.in_ok-put_root.ensures in
    let i = c.loop-i.i in
    let links = c.args.links.now in
    let row : i < c.args.system.now.size = omega arith in
    let inside : i < length c.args.above.now = omega (arith, c.requires.above) in
    let extends = so_far.moves.extends in
    record {
      moves = Moves-trans _ _ _ _ _ _ _ _ _ _ so_far.moves next.moves (omega (arith, so_far.rises, next.rises));
      puts = PutsRights-more i _ _ _ _ _ _ _ _ so_far.moves.size
          (λ vars.
          driven_base-extends links.graph.now links.level i c.args.above.now links.gates.now links.sources.now c.args.pool.now
          c.loop-i.pool vars extends
          (c.requires.formulas i (record { place = 0 }) inside) (gate-inside _ _ _ _ _ _ [] c.requires.fit i row)
          (source-inside _ _ _ _ _ _ [] c.requires.fit i (omega (arith, c.requires.fit.within))))
          so_far.puts next.puts;
      rises = omega (arith, so_far.rises, next.rises);
      few = omega (arith, so_far.few, next.few);
    }
