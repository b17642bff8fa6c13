-- The parts so far that have code are listed, and no others.
use Rattle.std.proofs.Common.{◌≡◌, ◌≢◌, ℕ, ◌<◌, Some, None}
use Rattle.std.specs.Prelude.{Contains, slice_get}
use Rattle.machine_parts.specs.declared.part.MachinePart.{MachinePart}
use Rattle.unit_step.specs.Bodies.{IsCodedAt}
use Rattle.unit_step.proofs.body.parts_with_code.Given as goal

abbrev pub invariant-loop-k : goal.invariant-loop-k
invariant-loop-k l = record {
  only : (k : ℕ) → Contains l.coded.items k → IsCodedAt l.parts k;
  all : (k : ℕ) (part : MachinePart) → k < l.k → slice_get l.parts k ≡ Some part → part.code ≢ None → Contains l.coded.items k;
}
