-- The slots so far whose parts have code are listed, and no others.
use Rattle.std.proofs.Common.{◌≡◌, ◌≢◌, ℕ, ◌<◌, Some, None}
use Rattle.std.specs.Prelude.{Contains, slice_get}
use Rattle.machine_parts.specs.declared.part.MachinePart.{MachinePart}
use Rattle.machine_laws.specs.Finishing.{HasCodeIn}
use Rattle.unit_step.proofs.long.coded_of.Given as goal

abbrev pub invariant-loop-place : goal.invariant-loop-place
invariant-loop-place l = record {
  only : (k : ℕ) → Contains l.coded.items k → HasCodeIn l.slots l.parts k;
  all : (k i : ℕ) (part : MachinePart) → i < l.place → slice_get l.slots i ≡ Some k → slice_get l.parts i ≡ Some part → part.code ≢ None → Contains l.coded.items k;
}
