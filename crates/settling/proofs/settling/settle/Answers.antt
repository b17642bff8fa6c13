-- Where fewer steps changed something than the limit allows, the state is steady, and no joining step changes it.
use Rattle.std.proofs.Common.{arith}
use Rattle.settling.proofs.SettlingLemmas.{Stepping-steady, Joining-steady}
use Rattle.settling.proofs.settling.settle.Goals as goal

pub returns-then-first-limit-clause-settles : goal.returns-then-first-limit-clause-settles
returns-then-first-limit-clause-settles g c = λ fits.
    let graph = c.args.graph.now in
    let mid = g.M.Stepper.state c.step_while_changing-first.new.m in
    let count = c.step_while_changing-first.result in
    let stepping = c.step_while_changing-first.ensures.stepping fits in
    let steady = Stepping-steady graph c.args.limit (g.M.Stepper.state c.args.m.now) count mid stepping c.if-first-limit.true in
    record {
      first = count;
      second = 0;
      mid = mid;
      stepping = stepping;
      joining = Joining-steady graph mid steady;
      total = omega arith;
      was_joined = ((λ yes. absurd cc), (λ more. absurd (omega (arith, more))));
    }
