-- Two negations cancel out.
use Rattle.std.proofs.Common.{refl, subst}
use Rattle.bool_pool.specs.Gate.{IsOperand}
use Rattle.bool_pool.proofs.MadeLemmas.{Serves-not_not}
use Rattle.bool_pool.proofs.pool.Pool.choose_not.Goals as goal

pub returns-in-Not-clause-serves : goal.returns-in-Not-clause-serves
returns-in-Not-clause-serves c =
    Serves-not_not c.args.self.now c.args.a.place c.in-Not.inner.place (c.in-Not.ensures.order _ refl)
    (subst (λ g. IsOperand g c.in-Not.inner.place) c.in-Not.ensures.gate refl) c.in-Not.ensures.value
