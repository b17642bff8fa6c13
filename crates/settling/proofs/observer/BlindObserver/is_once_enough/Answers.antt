-- Who doesn't look sees nothing.
use Rattle.std.proofs.Common.{refl}
use Rattle.settling.proofs.observer.BlindObserver.is_once_enough.Goals as goal

pub returns : goal.returns
returns c = record { again = λ before states. refl }
