-- The slots so far are empty.
use Rattle.std.proofs.Common.{◌≡◌, ◌≤◌, length}
use Rattle.part_steps.specs.declared.bundles.TheConstants.{SLOTS}
use Rattle.part_steps.specs.Waiting.{IsEmptyFrom, IsEmptyBelow}
use Rattle.part_steps.proofs.bundles.Bundles.clear_all.Given as goal

abbrev pub invariant-loop-place : goal.invariant-loop-place
invariant-loop-place l = record {
  counted : length l.self ≡ SLOTS;
  inside : l.high ≤ SLOTS;
  below : IsEmptyBelow l.place l.self;
  from : IsEmptyFrom l.high l.self;
}
