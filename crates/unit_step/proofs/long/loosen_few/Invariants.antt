-- Of the parts so far some have lost their codes.
use Rattle.machine_laws.specs.Finishing.{Loosens}
use Rattle.unit_step.proofs.long.loosen_few.Given as goal

abbrev pub invariant-loop-place : goal.invariant-loop-place
invariant-loop-place l = record { loosens : Loosens l.fn.parts l.parts }
