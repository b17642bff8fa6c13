use Rattle.std.proofs.Common.{arith}
use Rattle.net_gen.proofs.DrawsLemmas.{number_after-more, draw-more}
use Rattle.net_gen.proofs.draws.Draws.next.Goals as goal

pub invariant_of-self : goal.invariant_of-self
invariant_of-self c = record {
  reached = number_after-more _ _ _ c.args.self.now.reached;
  reduced = omega arith;
}

pub returns-clause-value : goal.returns-clause-value
returns-clause-value c = draw-more _ _ _ c.args.self.now.reached
