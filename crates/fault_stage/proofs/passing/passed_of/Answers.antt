-- Both states are copied.
use Rattle.std.proofs.Common.{refl}
use Rattle.fault_stage.proofs.passing.passed_of.Goals as goal

pub returns : goal.returns
returns c = (c.in_ok-first.ensures.items, c.in_ok-last.ensures.items, refl, refl)
