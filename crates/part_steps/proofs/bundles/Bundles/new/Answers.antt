-- The slots are as many as they must be.
use Rattle.std.proofs.Common.{◌≡◌, length, arith}
use Rattle.part_steps.specs.declared.bundles.TheConstants.{SLOTS}
use Rattle.part_steps.proofs.BundleLemmas.{AreBundles-new, IsEmptyFrom-empty}
use Rattle.part_steps.proofs.bundles.Bundles.new.Goals as goal

pub invariant_of-result : goal.invariant_of-result
invariant_of-result c =
    let bundles = c.loop.slots.items in
    let counted : length bundles ≡ SLOTS = omega (arith, c.loop.invariant.count, c.loop.auto.counter-end, c.loop-test.false) in
    AreBundles-new bundles counted c.loop.invariant.empty c.loop.invariant.room

pub returns : goal.returns
returns c = IsEmptyFrom-empty c.loop.slots.items c.loop.invariant.empty
