-- Three numbers below a bound are counted together.
use Rattle.std.proofs.Common.{◌<◌, length, ap, subst, arith}
use Rattle.std.proofs.lemmas.Bool.{OnTrue_at, OnTrue_from}
use Rattle.beside_run.specs.declared.coming.TheConstants.{MOST_LOOKS, MOST_STEPS}
use Rattle.beside_run.proofs.running.RunBeside.comes.Goals as goal

pub returns : goal.returns
returns c = rw (← c.self.view_is) (OnTrue_from c.is_next.result _ (λ set.
    let (next, limit_is, looks, steps, nodes) = OnTrue_at set c.is_next.ensures in
    let counted = ap length c.state.ensures in
    let few_steps : c.args.limit < MOST_STEPS = steps in
    let few_nodes : length c.args.machine.now.state < MOST_LOOKS = subst (λ n. n < MOST_LOOKS) counted nodes in record {
      next = next;
      limit_is = limit_is;
      few = omega (arith, limit_is, looks, few_steps, few_nodes);
    }))
