-- There is no phase yet.
use Rattle.std.proofs.Common.{arith}
use Rattle.good_phases.proofs.phases.GoodPhases.new.Goals as goal

pub invariant_of-result : goal.invariant_of-result
invariant_of-result c = rw c.new-2.ensures.items (λ k d inside. absurd (omega (arith, inside)))
