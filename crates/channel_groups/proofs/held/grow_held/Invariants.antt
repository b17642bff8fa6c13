-- Only nodes without a class, and empty slots, are added.
use Rattle.std.proofs.Common.{◌-◌, length}
use Rattle.channel_groups.specs.Writing.{SameHeld}
use Rattle.channel_groups.proofs.held.grow_held.Given as goal

abbrev pub invariant-loop-held : goal.invariant-loop-held
invariant-loop-held l = SameHeld l.initial.held.classes.items l.held.classes.items l.initial.held.slots.items l.held.slots.items

abbrev pub decreases-loop-held : goal.decreases-loop-held
decreases-loop-held l = l.count - length l.held.classes.items
