-- The switch leads to one node, and that has one distance.
use Rattle.circuit_lint.proofs.shorts.leads_on.Goals as goal

pub returns-in_err-next-clause-all : goal.returns-in_err-next-clause-all
returns-in_err-next-clause-all c next step =
    let some = c.across.ensures.all next step.joins in
    let none = c.in_err-next.was in
    absurd (cc)
