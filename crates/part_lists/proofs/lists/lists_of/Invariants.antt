-- The parts so far are listed.
use Rattle.part_lists.specs.Listing.{AreListed}
use Rattle.part_lists.proofs.lists.lists_of.Given as goal

abbrev pub invariant-loop-k : goal.invariant-loop-k
invariant-loop-k l = AreListed l.members l.parts l.nodes l.k l.lists.items
