-- One more at a time.
use Rattle.std.proofs.Common.{◌-◌, length}
use Rattle.channel_groups.proofs.ends.grow_spots.Given as goal

abbrev pub decreases-loop-spots : goal.decreases-loop-spots
decreases-loop-spots l = l.count - length l.spots.items
