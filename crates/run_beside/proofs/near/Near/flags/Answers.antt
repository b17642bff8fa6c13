-- The marks of the nodes that are near, or none.
use Rattle.std.proofs.Common.{sym, subst, arith}
use Rattle.machine_parts.specs.Marking.{IsMarked}
use Rattle.run_beside.proofs.near.Near.flags.Goals as goal

pub returns-then-self : goal.returns-then-self
returns-then-self c = λ node (inside, out). (c.if-self.true, λ is. out (subst (λ marks. IsMarked marks node) (sym c.marks.ensures) is))

pub returns : goal.returns
returns c = λ node (inside, out). absurd (omega (arith, inside))
