-- One row more.
use Rattle.std.proofs.Common.{[], arith}
use Rattle.node_elimination.proofs.EquationsLemmas.{Moves-trans}
use Rattle.node_elimination.proofs.PassingLemmas.{PassesRows-more}
use Rattle.node_elimination.proofs.solve.eliminate.Goals as goal

pub loop-i-preserved : goal.loop-i-preserved
loop-i-preserved g c = record {
  moves = Moves-trans [] _ _ _ _ _ _ _ _ _ c.loop-i.invariant.moves c.in_ok-pass_row.ensures.moves
      (omega (arith, c.loop-i.invariant.rises, c.in_ok-pass_row.ensures.rises));
  passes = PassesRows-more c.args.k c.loop-i.i _ _ _ _ _ _ c.requires.whole.square c.requires.in_range (omega arith) c.requires.gone
      c.loop-i.invariant.moves.size c.loop-i.invariant.moves.left c.loop-i.invariant.passes c.in_ok-pass_row.ensures.passes;
  rises = omega (arith, c.loop-i.invariant.rises, c.in_ok-pass_row.ensures.rises);
  few = omega (arith, c.loop-i.invariant.few, c.in_ok-pass_row.ensures.few, c.loop-i.invariant.moves.size);
}
