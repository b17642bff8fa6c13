-- The parts so far own their members.
use Rattle.machine_parts.specs.Making.{AreOwned}
use Rattle.part_steps.proofs.making.all_owners.Given as goal

abbrev pub invariant-loop-k : goal.invariant-loop-k
invariant-loop-k l = AreOwned l.parts l.nodes l.k l.owners.items
