-- The switch at a place is one alone.
use Rattle.std.proofs.Common.{◌≡◌}
use Rattle.vicinity.proofs.arms.arm_at.Goals as goal

pub returns-in_err-other-clause-some : goal.returns-in_err-other-clause-some
returns-in_err-other-clause-some c = λ other leads none.
    let same : leads.switch ≡ c.in_ok-switch.switch = cc (c.in_ok-switch.ensures.value, leads.at_place) in
    absurd (cc (c.other_end.ensures.all other (rw same at leads.joins), c.in_err-other.was))
