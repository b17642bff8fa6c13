use Rattle.std.proofs.Common.{length}
use Rattle.spice_read.proofs.frame.+node_in.Given as goal

-- the calls that are left
abbrev pub decreases-node_in : goal.decreases-node_in
decreases-node_in l = length l.calls.now
