use Rattle.std.proofs.Common.{refl, sym, true≢false}
use Rattle.unit_step.proofs.long.are_all.Goals as goal

pub returns-in-All : goal.returns-in-All
returns-in-All c = (λ is. c.in-All.is, λ all. refl)

pub returns-in-Short : goal.returns-in-Short
returns-in-Short c = (λ is. absurd (true≢false (sym is)), λ all. absurd (cc (c.in-Short.is, all)))
