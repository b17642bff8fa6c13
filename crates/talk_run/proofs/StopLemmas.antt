-- What stops a talk counts as the fault that broke it off.
use Rattle.std.proofs.Common.{◌≡◌, ℕ, Err, refl}
use Rattle.ports.specs.declared.ports.PortFault.TheVariants.{Failed, NoMemory}
use Rattle.talk_port.specs.Conversing.{unheard_after, unsaid_after}
use Rattle.talk_port.specs.declared.conversing.Broken.{Broken}
use Rattle.talk_port.specs.declared.conversing.Broken.TheVariants.{Unheard, Unsaid}
use Rattle.run_ends.specs.Stops.{read_at, written_at}
use Rattle.talk_run.specs.Talking.{broken_stop}

-- a fault of hearing is one of reading, and one of saying is one of writing
pub broken_counted : (faults : ℕ) (broken : Broken) →
    (unheard_after {X = Unit {0}} faults (Err broken) ≡ read_at faults (broken_stop broken))
    × (unsaid_after {X = Unit {0}} faults (Err broken) ≡ written_at faults (broken_stop broken))
broken_counted faults (Unheard Failed) = (refl, refl)
broken_counted faults (Unheard NoMemory) = (refl, refl)
broken_counted faults (Unsaid Failed) = (refl, refl)
broken_counted faults (Unsaid NoMemory) = (refl, refl)
