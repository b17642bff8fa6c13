-- What is known, or nothing.
use Rattle.std.proofs.Common.{ℕ, Option, sym, subst, arith}
use Rattle.run_beside.specs.declared.near.Near.{Near}
use Rattle.run_beside.specs.Near.{IsFar, IsOut}
use Rattle.run_beside.proofs.near.near_flags.Goals as goal

pub returns-in-Some : goal.returns-in-Some
returns-in-Some c = subst (λ (known : Option Near). (node : ℕ) → IsOut c.flags.result.now node → IsFar known node) (sym c.in-Some.is) c.flags.ensures

pub returns-in-None : goal.returns-in-None
returns-in-None c = λ node (inside, out). absurd (omega (arith, inside))
