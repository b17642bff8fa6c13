use Rattle.std.proofs.Common.{sym, true≢false}
use Rattle.unit_step.proofs.long.have_all.Goals as goal

pub returns-in-Some : goal.returns-in-Some
returns-in-Some c = (λ is. absurd (true≢false (sym is)), λ both. absurd (cc (c.in-Some.is, both.1)))

pub returns-in-None : goal.returns-in-None
returns-in-None c = (λ is. (c.are_all.ensures.0 is, c.in-None.is), λ both. c.are_all.ensures.1 both.0)
