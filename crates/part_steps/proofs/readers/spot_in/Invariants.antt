-- The part stands at no spot so far.
use Rattle.std.proofs.Common.{◌≢◌, ℕ, ◌<◌, get_or}
use Rattle.part_steps.proofs.readers.spot_in.Given as goal

abbrev pub invariant-loop-spot : goal.invariant-loop-spot
invariant-loop-spot l = (i : ℕ) → i < l.spot → get_or l.list i 0 ≢ l.k
