-- What a bench says of a fault.
use Rattle.fault_sim.specs.declared.verdicts.Verdict.{Verdict}
use Rattle.fault_sim.specs.Traces.{Trace, IsVerdict}

-- the verdict is that on a trace that a run under the fault may have, beside the good one
pub record JudgesBy (gives : Trace → Type 0) (good : Trace) (verdict : Verdict) : Type 0 where
  pub bad : Trace
  pub given : gives bad
  pub judged : IsVerdict good bad verdict
