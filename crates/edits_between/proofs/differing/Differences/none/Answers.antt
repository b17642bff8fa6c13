-- The same stands everywhere.
use Rattle.std.proofs.Common.{inr, refl}
use Rattle.edits_between.proofs.differing.Differences.none.Goals as goal

pub returns : goal.returns
returns c = λ g. record { by_place = λ place inside. inr refl; by_node = λ node inside. inr refl }
