-- One unknown more.
use Rattle.std.proofs.Common.{[], arith}
use Rattle.node_elimination.proofs.EquationsLemmas.{Moves-trans}
use Rattle.node_elimination.proofs.PassingLemmas.{Gathers-more}
use Rattle.node_elimination.proofs.solve.gather.Goals as goal

pub loop-j-preserved : goal.loop-j-preserved
loop-j-preserved g c = record {
  moves = Moves-trans [] _ _ _ _ _ _ _ _ _ c.loop-j.invariant.moves c.in_ok-gather_one.ensures.moves
      (omega (arith, c.loop-j.invariant.rises, c.in_ok-gather_one.ensures.rises));
  gathers = Gathers-more c.args.k c.loop-j.j _ _ _ _ _ _ c.requires.in_range (omega arith) c.requires.gone
      c.loop-j.invariant.moves.size c.loop-j.invariant.moves.left c.loop-j.invariant.gathers c.in_ok-gather_one.ensures.gathers;
  rises = omega (arith, c.loop-j.invariant.rises, c.in_ok-gather_one.ensures.rises);
  few = omega (arith, c.loop-j.invariant.few, c.in_ok-gather_one.ensures.few);
}
