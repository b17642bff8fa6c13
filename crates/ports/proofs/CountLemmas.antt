-- The counts of a port over several calls, of which the last answers.
use Rattle.std.proofs.Common.{◌≡◌, Result, Ok, Err, IfErr, refl, arith}
use Rattle.ports.specs.Ports.{faults_after}
use Rattle.ports.specs.declared.ports.PortFault.{PortFault}
use Rattle.ports.specs.declared.ports.PortFault.TheVariants.{Failed, NoMemory}

-- a port whose count never moves does not fail
pub never_failed : {T : Type 0} (result : Result T PortFault) → 0 ≡ faults_after 0 result → IfErr result (λ fault. fault ≡ NoMemory)
never_failed (Ok value) counted = tt
never_failed (Err NoMemory) counted = refl
never_failed (Err Failed) counted = absurd (omega arith)
