-- The part is listed at the nodes so far.
use Rattle.std.proofs.Common.{take}
use Rattle.part_lists.specs.Listing.{Lists}
use Rattle.part_lists.proofs.lists.list_part.Given as goal

abbrev pub invariant-loop-node : goal.invariant-loop-node
invariant-loop-node l = Lists l.k (take l.node-index l.nodes) l.fn.lists l.lists
